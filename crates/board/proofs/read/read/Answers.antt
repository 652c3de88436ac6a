-- `board::read::read` meets its contract: buffers that are refused are not read. Assumes nothing.
use Rattle.sizes.proofs.Refusals.{left_with}
use Rattle.board.proofs.Readings.{buffers_refused}
use Rattle.board.proofs.read.read.Goals as goal

pub returns-in_err-board : goal.returns-in_err-board
returns-in_err-board c = rw (left_with c.from_residual.ensures.1) (buffers_refused _ _ _ _ c.in_err-board.ensures.verdict)
