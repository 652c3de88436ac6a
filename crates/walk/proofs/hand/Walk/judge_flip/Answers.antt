-- `walk::hand::Walk::judge_flip` meets its contract: the walk is checked, and then the length. Assumes nothing.
use Rattle.sizes.proofs.Refusals.{stops, goes_on}
use Rattle.walk.specs.Hand.{walk_flip_verdict}
use Rattle.walk.proofs.hand.Walk.judge_flip.Goals as goal

pub returns-in_err-judge : goal.returns-in_err-judge
unfolding walk_flip_verdict
returns-in_err-judge c = stops _ c.from_residual.ensures.1 c.in_err-judge.ensures

pub returns : goal.returns
unfolding walk_flip_verdict
returns c = goes_on c.in_ok-judge.ensures c.judge_length.ensures
