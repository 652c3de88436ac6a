-- `stretch::judge` meets its contract: it leaves at the first check that refuses. Assumes nothing.
use Rattle.sizes.proofs.Refusals.{stops, goes_on}
use Rattle.stretch.specs.Stretch.{count_verdict, stretch_verdict}
use Rattle.stretch.proofs.judge.Goals as goal

pub returns-in_err-judge_start : goal.returns-in_err-judge_start
unfolding stretch_verdict
returns-in_err-judge_start c = stops _ c.from_residual.ensures.1 c.in_err-judge_start.ensures

pub returns : goal.returns
unfolding stretch_verdict count_verdict
returns c = goes_on c.in_ok-judge_start.ensures c.refuse_if.ensures
