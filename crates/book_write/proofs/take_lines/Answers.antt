use native.Mathlib.Omega.{arith}
use mathlib.Core.Path.{◌≡◌, refl, sym}
use Rattle.std.proofs.lemmas.Bool.{eqb-false, eqb-true}
use Rattle.std.proofs.lemmas.List.{nil_from_length}
use Rattle.line.proofs.Ends.{line_inside}
use Rattle.line.specs.Line.{Reads}
use Rattle.book_write.specs.Lines.{most_lines, Takes}
use Rattle.book_write.proofs.Takings.{going_first, failing, going_on, taking}
use Rattle.book_write.proofs.take_lines.Goals as goal

pub loop-i-init : goal.loop-i-init
loop-i-init c = going_first c.told-ns c.told-ks c.told-ranks c.told-counts

pub returns-then-is_empty-clause-takes : goal.returns-then-is_empty-clause-takes
unfolding Takes
returns-then-is_empty-clause-takes c = taking c.loop-i.invariant (λ l. nil_from_length _ (eqb-true _ _ (sym c.if-is_empty.ensures)))

pub split_at-requires : goal.split_at-requires
split_at-requires c = rw c.end_of.ensures (line_inside c.loop-i.rest.now)

pub returns-in_default-clause-takes : goal.returns-in_default-clause-takes
unfolding Takes
returns-in_default-clause-takes c =
    let parted = rw c.end_of.ensures at c.split_at.ensures in
    let some = eqb-false _ _ (sym c.if-is_empty.ensures) in
    (refl, failing c.loop-i.invariant parted.front parted.back (omega (arith, c.loop-i-test.true)) (omega (arith, some)) c.in_default.ensures)

pub loop-i-preserved : goal.loop-i-preserved
unfolding Reads
loop-i-preserved c =
    let parted = rw c.end_of.ensures at c.split_at.ensures in
    going_on c.loop-i.invariant parted.front parted.back (omega (arith, c.loop-i-test.true))
    c.in-Some.ensures c.put_number.ensures c.put_number-in-loop-i.ensures
    c.in_byte.ensures c.in_byte-in-loop-i.ensures

pub returns-clause-takes : goal.returns-clause-takes
unfolding Takes
returns-clause-takes c =
    let all : c.loop-i.i ≡ most_lines = omega arith in taking (rw all at c.loop-i.invariant) (λ l. absurd (omega arith))
