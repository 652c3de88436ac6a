-- `limpet::answer::pack_value` meets its contract: nothing but the value is packed. Assumes nothing.
use native.Mathlib.Omega.{arith}
use Rattle.limpet.specs.Answer.{answer_of, packed}
use Rattle.limpet.proofs.answer.pack_value.Goals as goal

pub returns : goal.returns
unfolding answer_of packed
returns c = omega arith
