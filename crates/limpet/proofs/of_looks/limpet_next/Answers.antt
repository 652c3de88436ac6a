-- `limpet_next` keeps its promise: it packs what the floor below answers, and a flip is at most 20 long. Assumes nothing.
use mathlib.Core.Path.{refl}
use native.Mathlib.Omega.{arith}
use Rattle.sizes.specs.Sizes.{most_slots}
use Rattle.look.specs.Look.{next_leaves}
use Rattle.look.proofs.Looks.{look_small}
use Rattle.arrangement.proofs.Validity.{accepted}
use Rattle.sizes.specs.Outcome.{outcome}
use Rattle.limpet.specs.Answer.{own_value}
use Rattle.limpet.proofs.Answers.{does_leaves, value_fits}
use Rattle.limpet.proofs.of_looks.limpet_next.Goals as goal

pub returns : goal.returns
returns c = does_leaves own_value c.next_lent.ensures c.pack.ensures

pub pack-requires : goal.pack-requires
unfolding next_leaves outcome
pack-requires c = value_fits most_slots c.next_lent.ensures.answer_is (λ passed. look_small (accepted _ _ _ _ passed) refl) (omega arith)
