-- `writer::check::judge` meets its contract: it leaves at the first check that refuses. Assumes nothing.
use Prim.Native.Nat.{◌≤◌}
use mathlib.Core.Path.{◌≡◌, sym, ◌∙◌, ap}
use lib.ListN.{length}
use Rattle.sizes.specs.declared.Fault.TheVariants.{Format}
use Rattle.sizes.specs.Refusal.{refused_if}
use Rattle.sizes.proofs.Refusals.{stops, goes_on}
use Rattle.book.specs.Format.{most_entries}
use Rattle.writer.specs.Write.{lent, few_verdict, write_verdict}
use Rattle.writer.proofs.Checks.{few_stretches, one_length}
use Rattle.writer.proofs.Pieces.{room_told}
use Rattle.writer.proofs.check.judge.Goals.{After-outside, In_ok-refuse_if}
use Rattle.writer.proofs.check.judge.Goals as goal

pub returns-in_err-judge_lists : goal.returns-in_err-judge_lists
unfolding write_verdict
returns-in_err-judge_lists c = stops _ c.from_residual.ensures.1 c.in_err-judge_lists.ensures

-- what is told of their number
counted : (c : After-outside) → refused_if Format c.outside.result ≡ few_verdict (length c.args.lists.now.ns.now)
unfolding few_verdict
counted c = ap (refused_if Format) c.outside.ensures

pub returns-in_err-refuse_if : goal.returns-in_err-refuse_if
unfolding write_verdict
returns-in_err-refuse_if c =
    goes_on c.in_ok-judge_lists.ensures
    (stops _ c.from_residual-in_err-refuse_if.ensures.1 (c.in_err-refuse_if.ensures ∙ counted (goal.at.returns-in_err-refuse_if c).After-outside))

-- and what is known of the lists behind that
few : (c : In_ok-refuse_if) → length c.args.lists.now.ns.now ≤ most_entries
unfolding few_verdict
few c = (few_stretches _ (sym (c.in_ok-refuse_if.ensures ∙ ap (refused_if Format) c.outside.ensures))).1

pub invariant_of-judge_stretches : goal.invariant_of-judge_stretches
invariant_of-judge_stretches c = record {
  one_length = one_length (lent c.args.lists.now) (sym c.in_ok-judge_lists.ensures) (few (goal.at.invariant_of-judge_stretches c).In_ok-refuse_if);
}

pub returns-in_err-judge_stretches : goal.returns-in_err-judge_stretches
unfolding write_verdict
returns-in_err-judge_stretches c =
    goes_on c.in_ok-judge_lists.ensures
    (goes_on (c.in_ok-refuse_if.ensures ∙ counted (goal.at.returns-in_err-judge_stretches c).After-outside)
    (stops _ c.from_residual-in_err-judge_stretches.ensures.1 c.in_err-judge_stretches.ensures))

pub returns : goal.returns
unfolding write_verdict
returns c =
    goes_on c.in_ok-judge_lists.ensures
    (goes_on (c.in_ok-refuse_if.ensures ∙ counted (goal.at.returns c).After-outside)
    (goes_on c.in_ok-judge_stretches.ensures (c.refuse_if-2.ensures ∙ room_told (lent c.args.lists.now) _ c.book_length.ensures)))
