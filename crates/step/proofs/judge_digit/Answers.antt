-- `step::judge_digit` meets its contract: its comparisons are those of the check, in its order. Assumes nothing.
use Rattle.sizes.proofs.Refusals.{stops}
use Rattle.step.specs.Step.{counter_verdict}
use Rattle.step.proofs.Verdicts.{stays_open, becomes_full}
use Rattle.step.proofs.judge_digit.Goals as goal

pub returns-in_err-refuse_if : goal.returns-in_err-refuse_if
unfolding counter_verdict
returns-in_err-refuse_if c = stops _ c.from_residual.ensures.1 (rw c.place-counter.ensures.0 at c.in_err-refuse_if.ensures)

pub returns-then-counter-full : goal.returns-then-counter-full
returns-then-counter-full c = stays_open _ _ _ _ _ c.place-counter.ensures.0 c.in_ok-refuse_if.ensures c.if-counter-full.true

pub returns : goal.returns
returns c =
    becomes_full _ _ _ _ _ c.place-counter.ensures.0 c.in_ok-refuse_if.ensures c.if-counter-full.false (rw (c.outside.ensures, c.place-end.ensures.0) at c.refuse_if-2.ensures)
