-- `walk::hand::Walk::arrangement` meets its contract: it leaves at the first check that refuses, and the slots depend on the first n
-- places alone. Assumes nothing.
use mathlib.Core.Path.{sym, ap, ◌∙◌}
use borrow.Author.Rules.{rules}
use lib.Seq.{length-take-le}
use Rattle.sizes.specs.Refusal.{checked}
use Rattle.sizes.proofs.Refusals.{left_with, stops_making, goes_on}
use Rattle.arrangement.proofs.Validity.{valid}
use Rattle.walk.specs.Hand.{walk_verdict}
use Rattle.walk.proofs.Hands.{places_judged}
use Rattle.walk.proofs.hand.Walk.arrangement.Goals as goal

pub returns-in_err-sizes-clause-verdict : goal.returns-in_err-sizes-clause-verdict
unfolding walk_verdict
returns-in_err-sizes-clause-verdict c = stops_making _ _ c.from_residual.ensures.1 c.in_err-sizes.ensures.verdict

pub returns-in_err-judge_slots-clause-verdict : goal.returns-in_err-judge_slots-clause-verdict
unfolding walk_verdict
returns-in_err-judge_slots-clause-verdict c =
    let same = c.in_ok-sizes.ensures.sizes in
    goes_on c.in_ok-sizes.ensures.verdict
    (ap checked (left_with c.from_residual-in_err-judge_slots.ensures.1) ∙ c.in_err-judge_slots.ensures ∙
    rw (same.0, same.1) (places_judged c.args.self.now))

pub invariant_of-result : goal.invariant_of-result
invariant_of-result c = record {
  modules_long = length-take-le _ _ (search rules);
  settings_long = length-take-le _ _ (search rules);
  valid = valid _ _ _ _ (sym c.in_ok-judge_slots.ensures);
}

pub returns-clause-verdict : goal.returns-clause-verdict
unfolding walk_verdict
returns-clause-verdict c =
    let same = c.in_ok-sizes.ensures.sizes in
    goes_on c.in_ok-sizes.ensures.verdict (c.in_ok-judge_slots.ensures ∙ rw (same.0, same.1) (places_judged c.args.self.now))
