-- `rank::start::Start::new` meets its contract: it leaves at the first check that refuses, and a rank that passes is below T.
-- Assumes nothing.
use mathlib.Core.Path.{sym, ap, ◌∙◌}
use Rattle.sizes.proofs.Refusals.{left_with, stops_making, goes_on}
use Rattle.sizes.specs.Refusal.{checked}
use Rattle.order.proofs.Checks.{rank_passed}
use Rattle.order.specs.Check.{start_verdict}
use Rattle.rank.proofs.start.Start.new.Goals as goal

pub returns-in_err-sizes-clause-verdict : goal.returns-in_err-sizes-clause-verdict
unfolding start_verdict
returns-in_err-sizes-clause-verdict c = stops_making _ _ c.from_residual.ensures.1 c.in_err-sizes.ensures.verdict

pub returns-in_err-judge_rank-clause-verdict : goal.returns-in_err-judge_rank-clause-verdict
unfolding start_verdict
returns-in_err-judge_rank-clause-verdict c =
    goes_on c.in_ok-sizes.ensures.verdict
    (ap checked (left_with c.from_residual-in_err-judge_rank.ensures.1) ∙ c.in_err-judge_rank.ensures ∙ rw (c.in_ok-sizes.ensures.sizes.0, c.in_ok-sizes.ensures.sizes.1))

pub invariant_of-result : goal.invariant_of-result
invariant_of-result c = record { below = rank_passed _ _ _ (sym c.in_ok-judge_rank.ensures) }

pub returns-clause-verdict : goal.returns-clause-verdict
unfolding start_verdict
returns-clause-verdict c =
    goes_on c.in_ok-sizes.ensures.verdict (c.in_ok-judge_rank.ensures ∙ rw (c.in_ok-sizes.ensures.sizes.0, c.in_ok-sizes.ensures.sizes.1))
