-- The laws of the checks of a stretch and of a pair: each comparison decides one test of the definition. Assumes nothing.
use mathlib.Core.Path.{◌≡◌}
use Prim.Native.Nat.{ℕ}
use borrow.Author.Tests.{ltb-false}
use Rattle.sizes.specs.declared.Fault.TheVariants.{Count, Pair}
use Rattle.sizes.specs.Refusal.{fine}
use Rattle.sizes.proofs.Refusals.{both_fine, no_fault, Small, small_first, small_if}
use Rattle.order.specs.Check.{start_verdict}
use Rattle.order.proofs.Checks.{start_asked, small_start}
use Rattle.stretch.specs.Stretch.{most_counted, count_verdict, stretch_verdict}
use Rattle.stretch.specs.Pair.{pair_verdict}
use Rattle.stretch.specs.Asked.{StretchAsked}

-- a stretch that is not refused
pub stretch_asked : (n k r t : ℕ) → stretch_verdict n k r t ≡ fine → StretchAsked n k r t
unfolding stretch_verdict count_verdict
stretch_asked n k r t e =
    let both = both_fine (start_verdict n k r) _ e in
    let start = start_asked n k r both.0 in
    record { sizes = start.0; rank = start.1; count = ltb-false most_counted t (no_fault Count _ both.1) }

pub pair_asked : (n k r t v c w e : ℕ) → pair_verdict n k r t v c w e ≡ fine → StretchAsked n k r t
unfolding pair_verdict
pair_asked n k r t v c w e passed = stretch_asked n k r t (both_fine (stretch_verdict n k r t) _ passed).0

-- numbers and places fit a byte each
pub small_stretch : (n k r t : ℕ) → Small (stretch_verdict n k r t)
unfolding stretch_verdict count_verdict
small_stretch n k r t = small_first _ _ (small_start n k r) (λ passed. small_if Count _)

pub small_pair : (n k r t v c w e : ℕ) → Small (pair_verdict n k r t v c w e)
unfolding pair_verdict
small_pair n k r t v c w e = small_first _ _ (small_stretch n k r t) (λ passed. small_if Pair _)
