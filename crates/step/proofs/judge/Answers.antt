-- `step::judge` meets its contract: it leaves at the first check that refuses. Assumes nothing.
use mathlib.Core.Path.{◌∙◌}
use Rattle.sizes.proofs.Refusals.{stops, goes_on}
use Rattle.step.specs.Step.{lent_step_verdict}
use Rattle.step.proofs.judge.Goals as goal

pub returns-in_err-board : goal.returns-in_err-board
unfolding lent_step_verdict
returns-in_err-board c = stops _ c.from_residual.ensures.1 c.in_err-board.ensures.verdict

pub returns : goal.returns
unfolding lent_step_verdict
returns c =
    let board = c.in_ok-board.ensures in goes_on board.verdict (c.judge_step.ensures ∙ rw (board.sizes.0, board.sizes.1, board.rows.0, board.rows.1))
