-- `arrangement::check::judge_buffers` meets its contract: it leaves at the first check that refuses, and n plus what is more
-- fits, since n has passed. Assumes nothing.
use mathlib.Core.Path.{sym}
use native.Mathlib.Omega.{arith}
use Rattle.sizes.proofs.Refusals.{stops, goes_on}
use Rattle.sizes.proofs.Weights.{permitted}
use Rattle.arrangement.specs.Check.{length_verdict, buffers_verdict}
use Rattle.arrangement.proofs.check.judge_buffers.Goals as goal

pub returns-in_err-judge : goal.returns-in_err-judge
unfolding buffers_verdict
returns-in_err-judge c = stops _ c.from_residual.ensures.1 c.in_err-judge.ensures

pub returns-in_err-refuse_if : goal.returns-in_err-refuse_if
unfolding buffers_verdict length_verdict
returns-in_err-refuse_if c = goes_on c.in_ok-judge.ensures (stops _ c.from_residual-in_err-refuse_if.ensures.1 c.in_err-refuse_if.ensures)

pub overflow_add-n : goal.overflow_add-n
overflow_add-n c = omega (arith, c.requires, (permitted _ _ (sym c.in_ok-judge.ensures)).n_high)

pub returns : goal.returns
unfolding buffers_verdict length_verdict
returns c = goes_on c.in_ok-judge.ensures (goes_on c.in_ok-refuse_if.ensures c.refuse_if-2.ensures)
