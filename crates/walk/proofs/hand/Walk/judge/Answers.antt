-- `walk::hand::Walk::judge` meets its contract: it is the check of the arrangement in its places. Assumes nothing.
use mathlib.Core.Path.{◌∙◌}
use Rattle.sizes.proofs.Refusals.{left_with}
use Rattle.walk.proofs.hand.Walk.judge.Goals as goal

pub returns-in_err-arrangement : goal.returns-in_err-arrangement
returns-in_err-arrangement c = left_with c.from_residual.ensures.1 ∙ c.in_err-arrangement.ensures.verdict
