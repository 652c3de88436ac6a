-- `limpet::answer::pack_refusal` meets its contract: it is the packing of a refusal, which has no value. Assumes nothing.
use native.Mathlib.Omega.{arith}
use Rattle.limpet.specs.Answer.{answer_of, packed}
use Rattle.limpet.proofs.answer.pack_refusal.Goals as goal

pub returns : goal.returns
unfolding answer_of packed
returns c = omega (arith, c.number.ensures, c.from.ensures, c.from-2.ensures)
