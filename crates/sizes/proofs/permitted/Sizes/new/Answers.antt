-- `sizes::permitted::Sizes::new` meets its contract: sizes that the check lets pass are permitted. Assumes nothing.
use mathlib.Core.Path.{sym}
use Rattle.sizes.proofs.Weights.{permitted}
use Rattle.sizes.proofs.permitted.Sizes.new.Goals as goal

pub invariant_of-result : goal.invariant_of-result
invariant_of-result c = record { permitted = permitted _ _ (sym c.in_ok-judge.ensures) }
