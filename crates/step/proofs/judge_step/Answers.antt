-- `step::judge_step` meets its contract: it leaves at the first check that decides. Assumes nothing.
use mathlib.Core.Path.{◌∙◌}
use native.Mathlib.Omega.{arith}
use Rattle.sizes.proofs.Refusals.{left_with}
use Rattle.board.proofs.Runs.{lowest_range}
use Rattle.step.proofs.Verdicts.{not_below, points_low, points_behind, points_to}
use Rattle.step.proofs.judge_step.Goals as goal

pub place-x-requires : goal.place-x-requires
place-x-requires c =
    let board = c.args.board in
    omega (arith, lowest_range board.sizes.k, c.lowest_digit-s.ensures, board.pointers_long, board.sizes.permitted.n_low)

pub returns-in_err-refuse_if : goal.returns-in_err-refuse_if
returns-in_err-refuse_if c =
    left_with c.from_residual.ensures.1 ∙ points_low _ _ _ _ c.lowest_digit-s.ensures c.place-x.ensures.0 c.in_err-refuse_if.ensures

pub judge_digit-requires : goal.judge_digit-requires
judge_digit-requires c =
    (omega (arith, lowest_range c.args.board.sizes.k, c.lowest_digit-s.ensures, not_below c.in_ok-refuse_if.ensures), c.if-x-board.true)

pub returns-then-x-board : goal.returns-then-x-board
returns-then-x-board c =
    points_to _ _ _ _ c.lowest_digit-s.ensures c.place-x.ensures.0 c.in_ok-refuse_if.ensures c.if-x-board.true c.judge_digit.ensures

pub returns : goal.returns
returns c =
    points_behind _ _ _ _ c.lowest_digit-s.ensures c.place-x.ensures.0 c.in_ok-refuse_if.ensures c.if-x-board.false c.refuse_if-2.ensures
