-- `limpet::answer::pack_verdict` meets its contract: a verdict has no value. Assumes nothing.
use Rattle.limpet.specs.Answer.{answer_of, packed}
use Rattle.limpet.proofs.answer.pack_verdict.Goals as goal

pub returns-in-Ok : goal.returns-in-Ok
unfolding answer_of packed
returns-in-Ok c = rw c.in-Ok.is

pub returns-in-Err : goal.returns-in-Err
unfolding answer_of
returns-in-Err c = rw c.in-Err.is c.pack_refusal.ensures
