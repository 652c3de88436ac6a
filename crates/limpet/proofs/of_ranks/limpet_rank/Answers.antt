-- `limpet_rank` keeps its promise: it answers as `limpet_check` does. Assumes nothing.
use Rattle.limpet.proofs.of_ranks.limpet_rank.Goals as goal

pub returns : goal.returns
returns c = c.limpet_check.ensures
