-- `limpet_board_write` keeps its promise: it packs what the floor below answers, and no number comes with a board. Assumes nothing.
use Rattle.limpet.specs.Answer.{no_value}
use Rattle.limpet.proofs.Answers.{does_leaves}
use Rattle.limpet.proofs.of_boards.limpet_board_write.Goals as goal

pub returns : goal.returns
returns c = does_leaves no_value c.write_lent.ensures c.pack_verdict.ensures
