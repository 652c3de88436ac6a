-- `stretch::pair::judge` meets its contract: it leaves at the first check that refuses. Assumes nothing.
use Rattle.sizes.proofs.Refusals.{stops, goes_on}
use Rattle.stretch.specs.Pair.{pair_verdict}
use Rattle.stretch.proofs.pair.judge.Goals as goal

pub returns-in_err-judge : goal.returns-in_err-judge
unfolding pair_verdict
returns-in_err-judge c = stops _ c.from_residual.ensures.1 c.in_err-judge.ensures

pub returns : goal.returns
unfolding pair_verdict
returns c = goes_on c.in_ok-judge.ensures (rw c.is_bad.ensures at c.refuse_if.ensures)
