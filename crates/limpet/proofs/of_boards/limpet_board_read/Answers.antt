-- `limpet_board_read` keeps its promise: it packs the verdict of a reading. Assumes nothing.
use Rattle.limpet.specs.Answer.{answer_of, packed}
use Rattle.limpet.specs.Calls.{verdict_shown}
use Rattle.board.specs.Read.{verdict_of}
use Rattle.limpet.proofs.of_boards.limpet_board_read.Goals as goal

pub returns-in-Ok : goal.returns-in-Ok
unfolding verdict_shown verdict_of answer_of packed
returns-in-Ok c = record { reading = c.read.result; reads = c.read.ensures; returned_is = rw c.in-Ok.is }

pub returns-in-Err : goal.returns-in-Err
unfolding verdict_shown verdict_of answer_of
returns-in-Err c = record { reading = c.read.result; reads = c.read.ensures; returned_is = rw c.in-Err.is c.pack_refusal.ensures }
