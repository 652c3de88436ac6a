-- `limpet_flip` keeps its promise: it packs what the floor below answers, and no number comes with a flip. Assumes nothing.
use Rattle.limpet.specs.Answer.{no_value}
use Rattle.limpet.proofs.Answers.{does_leaves}
use Rattle.limpet.proofs.of_arrangements.limpet_flip.Goals as goal

pub returns : goal.returns
returns c = does_leaves no_value c.flip_lent.ensures c.pack_verdict.ensures
