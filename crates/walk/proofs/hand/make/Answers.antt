-- `walk::hand::make` meets its contract: the walk of the rank, or the walk of no rank where that is refused. Assumes nothing.
use mathlib.Core.Path.{◌∙◌}
use Rattle.walk.specs.Hand.{makes}
use Rattle.walk.proofs.Hands.{handed_done, handed_kept}
use Rattle.walk.proofs.hand.make.Goals as goal

pub returns-in-Ok : goal.returns-in-Ok
unfolding makes
returns-in-Ok c =
    let made = c.in-Ok.ensures.start in
    handed_done _ c.in-Ok.ensures.verdict (c.walk_of.ensures ∙ rw (made.0, made.1, made.2))

pub returns-in-Err : goal.returns-in-Err
unfolding makes
returns-in-Err c = handed_kept _ c.in-Err.ensures.verdict c.no_walk.ensures
