-- `rank::check::judge_start` meets its contract: it is the check by which a start is made. Assumes nothing.
use mathlib.Core.Path.{◌∙◌}
use Rattle.sizes.proofs.Refusals.{left_with}
use Rattle.rank.proofs.check.judge_start.Goals as goal

pub returns-in_err-new : goal.returns-in_err-new
returns-in_err-new c = left_with c.from_residual.ensures.1 ∙ c.in_err-new.ensures.verdict
