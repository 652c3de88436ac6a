-- `writer::write::write_lent` keeps its promise: where nothing is refused, head, entries and bodies are written one behind the other.
-- Assumes nothing.
use Prim.Native.Nat.{◌≤◌}
use mathlib.Core.Path.{refl, sym}
use mathlib.Core.List.{[]}
use native.Mathlib.Omega.{arith}
use lib.ListN.{length}
use Rattle.rows.specs.Put.{Put}
use Rattle.rows.proofs.Puts.{put_front}
use Rattle.sizes.proofs.Outcomes.{refused_does, done_does}
use Rattle.book.specs.Format.{entry_place_lem}
use Rattle.writer.specs.Write.{lent, stretch_at_lem, book_lent}
use Rattle.writer.proofs.Checks.{Accepted, accepted, does_write}
use Rattle.writer.proofs.Pieces.{contents_inside, lent_long, entries_end, book_put}
use Rattle.writer.proofs.write.write_lent.Goals.{In_ok-judge, After-put_bodies}
use Rattle.writer.proofs.write.write_lent.Goals as goal

pub returns-in_err-judge : goal.returns-in_err-judge
returns-in_err-judge c =
    let w = does_write (lent c.args.lists.now) c.args.book.now (refused_does _ _ [] _ [] c.from_residual.ensures.1 c.in_err-judge.ensures refl refl) in
    record { value = w.0; book_after = w.1 }

asked : (c : In_ok-judge) → Accepted (lent c.args.lists.now) c.args.book.now
asked c = accepted _ _ (sym c.in_ok-judge.ensures)

pub invariant_of-stretches : goal.invariant_of-stretches
invariant_of-stretches c = record { one_length = (asked (goal.at.invariant_of-stretches c).In_ok-judge).one_length }

pub put_byte-format-requires : goal.put_byte-format-requires
put_byte-format-requires c =
    omega (arith, contents_inside (lent c.args.lists.now), (asked (goal.at.put_byte-format-requires c).In_ok-judge).room)

pub overflow_cast-lists : goal.overflow_cast-lists
overflow_cast-lists c = omega (arith, (asked (goal.at.overflow_cast-lists c).In_ok-judge).one_length.few)

pub put_byte-head-requires : goal.put_byte-head-requires
put_byte-head-requires c =
    omega (arith, contents_inside (lent c.args.lists.now), (asked (goal.at.put_byte-head-requires c).In_ok-judge).room)

pub put_entries-contents-requires : goal.put_entries-contents-requires
put_entries-contents-requires c =
    let a = asked (goal.at.put_entries-contents-requires c).In_ok-judge in
    (a.all, omega (arith, contents_inside (lent c.args.lists.now), a.room))

pub put_bodies-requires : goal.put_bodies-requires
unfolding entry_place_lem
put_bodies-requires c =
    let l = lent c.args.lists.now in
    let a = asked (goal.at.put_bodies-requires c).In_ok-judge in
    (a.all, omega (arith, entries_end l (omega (arith, contents_inside l, a.room)) _ c.put_entries-contents.ensures), omega (arith, lent_long l, a.room))

-- the book is put
whole : (c : After-put_bodies) → length (book_lent (lent c.args.lists.now)) ≤ length c.args.book.now →
    Put c.args.book.now 0 (book_lent (lent c.args.lists.now)) c.put_bodies.result c.put_bodies.new.out
unfolding book_lent
whole c room =
    book_put (stretch_at_lem (lent c.args.lists.now)) room refl c.put_byte-format.ensures c.put_byte-head.ensures c.put_entries-contents.ensures c.put_bodies.ensures

pub returns : goal.returns
returns c =
    let past = goal.at.returns c in
    let put = put_front (whole past.After-put_bodies (asked past.In_ok-judge).room) in
    let w = does_write (lent c.args.lists.now) c.args.book.now (done_does _ [] _ [] c.in_ok-judge.ensures put.0 put.1 refl) in
    record { value = w.0; book_after = w.1 }
