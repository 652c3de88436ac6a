-- `rank::check::judge` meets its contract: it leaves at the first check that refuses. Assumes nothing.
use mathlib.Core.Path.{sym}
use Rattle.sizes.proofs.Refusals.{stops, goes_on}
use Rattle.arrangement.proofs.Validity.{fit}
use Rattle.order.specs.Check.{lent_rank_verdict}
use Rattle.rank.proofs.check.judge.Goals as goal

pub returns-in_err-judge_buffers : goal.returns-in_err-judge_buffers
unfolding lent_rank_verdict
returns-in_err-judge_buffers c = stops _ c.from_residual.ensures.1 c.in_err-judge_buffers.ensures

pub invariant_of-judge_rank : goal.invariant_of-judge_rank
invariant_of-judge_rank c = record { permitted = (fit _ _ _ _ _ (sym c.in_ok-judge_buffers.ensures)).sizes }

pub returns : goal.returns
unfolding lent_rank_verdict
returns c = goes_on c.in_ok-judge_buffers.ensures c.judge_rank.ensures
