-- `arrangement::check::judge` meets its contract: it leaves at the first check that refuses. Assumes nothing.
use mathlib.Core.Path.{sym}
use native.Mathlib.Omega.{arith}
use Rattle.sizes.proofs.Refusals.{stops, goes_on}
use Rattle.arrangement.specs.Check.{lent_verdict}
use Rattle.arrangement.proofs.Validity.{fit}
use Rattle.arrangement.proofs.check.judge.Goals as goal

pub returns-in_err-judge_buffers : goal.returns-in_err-judge_buffers
unfolding lent_verdict
returns-in_err-judge_buffers c = stops _ c.from_residual.ensures.1 c.in_err-judge_buffers.ensures

pub judge_slots-requires : goal.judge_slots-requires
judge_slots-requires c =
    let lent = fit _ _ _ _ _ (sym c.in_ok-judge_buffers.ensures) in
    (lent.sizes.n_high, lent.sizes.k_low, lent.one, omega (arith, lent.two))

pub returns : goal.returns
unfolding lent_verdict
returns c = goes_on c.in_ok-judge_buffers.ensures c.judge_slots.ensures
