-- `flip::judge` meets its contract: it leaves at the first check that refuses. Assumes nothing.
use Rattle.sizes.proofs.Refusals.{stops, goes_on}
use Rattle.flip.specs.Flip.{flip_verdict}
use Rattle.flip.proofs.judge.Goals as goal

pub returns-in_err-judge : goal.returns-in_err-judge
unfolding flip_verdict
returns-in_err-judge c = stops _ c.from_residual.ensures.1 c.in_err-judge.ensures

pub returns : goal.returns
unfolding flip_verdict
returns c = goes_on c.in_ok-judge.ensures c.judge_length.ensures
