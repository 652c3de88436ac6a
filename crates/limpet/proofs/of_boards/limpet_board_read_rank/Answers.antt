-- `limpet_board_read_rank` keeps its promise: it answers the rank of a reading, or 0. Assumes nothing.
use mathlib.Core.Path.{◌∙◌}
use Rattle.limpet.proofs.Answers.{rank_shown}
use Rattle.limpet.proofs.of_boards.limpet_board_read_rank.Goals as goal

pub returns : goal.returns
returns c = record { reading = c.read.result; reads = c.read.ensures; returned_is = c.unwrap_or.ensures ∙ rank_shown c.read.result }
