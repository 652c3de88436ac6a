use mathlib.Core.Path.{sym, ◌∙◌, ap₂}
use Prim.Native.Nat.{◌+◌}
use native.Mathlib.Omega.{arith}
use lib.ListN.{length as long}
use Rattle.rows.specs.Row.{at}
use Rattle.book.specs.Format.{entry_place_lem}
use Rattle.writer.proofs.Pieces.{place_first, place_next, place_high}
use Rattle.writer.proofs.lists.book_length.Goals as goal

pub loop-n-init : goal.loop-n-init
loop-n-init c = c.entry_place-length.ensures ∙ sym (place_first _ _)

pub overflow_add-length : goal.overflow_add-length
unfolding entry_place_lem
overflow_add-length c =
    let ns = c.args.ns.now in
    let i = c.loop-n.n-index in
    omega (arith, c.requires, c.loop-n.invariant, c.from-length.ensures, c.type_inv.ns i, place_high (long ns) (at ns) 255 i (λ j l. omega (arith, c.type_inv.ns j)))

pub loop-n-preserved : goal.loop-n-preserved
loop-n-preserved c = ap₂ ◌+◌ c.loop-n.invariant c.from-length.ensures ∙ place_next _ _ c.loop-n.n-index
