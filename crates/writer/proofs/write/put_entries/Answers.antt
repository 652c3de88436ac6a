use Prim.Native.Nat.{◌+◌}
use mathlib.Core.Path.{sym, ◌∙◌, ap, ap₂}
use native.Mathlib.Omega.{arith}
use lib.ListN.{length}
use Rattle.rows.specs.Row.{at}
use Rattle.book.specs.Format.{entry_place_lem}
use Rattle.writer.specs.Write.{Lists, lent as lent_to, stretch_at_lem}
use Rattle.writer.proofs.Pieces.{place_first, place_next, place_high, joined_first, entry_room, entries_on}
use Rattle.writer.proofs.write.put_entries.Goals.{At-loop-i, In-loop-i}
use Rattle.writer.proofs.write.put_entries.Goals as goal

-- what was lent
abbrev lent : (c : At-loop-i) → Lists
lent c = lent_to c.args.stretches.lists

pub loop-i-init : goal.loop-i-init
loop-i-init c = (c.entry_place-offset.ensures ∙ sym (place_first _ _), joined_first _)

pub put_entry-end-requires : goal.put_entry-end-requires
put_entry-end-requires c =
    let pre = c.requires in
    (entry_room (lent (goal.at.put_entry-end-requires c).At-loop-i) pre.1 c.loop-i.i c.loop-i.invariant.1 c.loop-i-test.true, (rw c.stretch_at-stretch.ensures (pre.0.bookable _ c.loop-i-test.true)))

-- the next body begins within the longest book
pub overflow_add-offset : goal.overflow_add-offset
unfolding entry_place_lem stretch_at_lem
overflow_add-offset c =
    let ns = c.args.stretches.lists.ns.now in
    let pre = c.requires.0 in
    let i = c.loop-i.i in
    omega (
      arith,
      c.args.stretches.one_length.few,
      c.loop-i.invariant.0,
      ap (λ s. s.n) c.stretch_at-stretch.ensures,
      (pre.bookable i c.loop-i-test.true).sizes.n_high,
      place_high (length ns) (at ns) 20 i (λ h l. (pre.bookable h (omega (arith, l))).sizes.n_high),
    )

pub loop-i-preserved : goal.loop-i-preserved
unfolding stretch_at_lem
loop-i-preserved c =
    let loop = c.loop-i in (
      ap₂ ◌+◌ loop.invariant.0 (ap (λ s. s.n) c.stretch_at-stretch.ensures) ∙ place_next _ _ loop.i,
      entries_on (lent (goal.at.loop-i-preserved c).At-loop-i) c.requires.1 loop.i loop.invariant.1 c.loop-i-test.true loop.invariant.0 c.stretch_at-stretch.ensures c.put_entry-end.ensures,
    )
