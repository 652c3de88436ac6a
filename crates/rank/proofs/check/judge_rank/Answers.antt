-- `rank::check::judge_rank` meets its contract: the rank is held to T. Assumes nothing.
use mathlib.Core.Path.{◌∙◌}
use Rattle.order.specs.Check.{rank_verdict}
use Rattle.rank.proofs.check.judge_rank.Goals as goal

pub returns : goal.returns
unfolding rank_verdict
returns c = c.refuse_if.ensures ∙ rw c.total.ensures
