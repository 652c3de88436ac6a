-- The laws of the check of a rank: what its comparison with T comes to, and what is known where it refuses nothing. Assumes nothing.
use mathlib.Core.Path.{◌≡◌}
use mathlib.Core.List.{List}
use Prim.Native.Nat.{ℕ, ◌<◌}
use native.Mathlib.Omega.{arith}
use lib.ListN.{length}
use borrow.Author.Tests.{leb-false}
use Rattle.sizes.specs.declared.Fault.TheVariants.{Rank}
use Rattle.sizes.specs.Refusal.{fine}
use Rattle.sizes.specs.Sizes.{weight, sizes_verdict, Permitted}
use Rattle.sizes.proofs.Refusals.{both_fine, no_fault, Small, small_first, small_if}
use Rattle.sizes.proofs.Weights.{permitted, small_sizes}
use Rattle.arrangement.specs.Check.{buffers_verdict}
use Rattle.arrangement.proofs.Validity.{Fit, fit, small_buffers}
use Rattle.order.specs.Check.{rank_verdict, start_verdict, lent_rank_verdict}

-- a rank that is not refused is below T
pub rank_passed : (n k r : ℕ) → rank_verdict n k r ≡ fine → r < weight n k
unfolding rank_verdict
rank_passed n k r e = leb-false (weight n k) r (no_fault Rank _ e)

-- what is known of a start rank that is not refused
pub start_asked : (n k r : ℕ) → start_verdict n k r ≡ fine → Permitted n k × (r < weight n k)
unfolding start_verdict
start_asked n k r e =
    let both = both_fine (sizes_verdict n k) _ e in (permitted n k both.0, rank_passed n k r both.1)

-- what is known of a rank and two buffers that are not refused
pub rank_accepted : (n k r : ℕ) (xs : List ℕ) (more : ℕ) (ys : List ℕ) → lent_rank_verdict n k r xs more ys ≡ fine → Fit n k xs more ys × (r < weight n k)
unfolding lent_rank_verdict
rank_accepted n k r xs more ys e =
    let both = both_fine (buffers_verdict n k xs more ys) _ e in (fit n k xs more ys both.0, rank_passed n k r both.1)

-- so an arrangement can be written into two buffers of n bytes
pub write_asked : (n k r : ℕ) (ms ss : List ℕ) → lent_rank_verdict n k r ms 0 ss ≡ fine → Permitted n k × (r < weight n k) × (length ms ≡ n) × (length ss ≡ n)
write_asked n k r ms ss e =
    let a = rank_accepted n k r ms 0 ss e in (a.0.sizes, a.1, a.0.one, omega (arith, a.0.two))

-- numbers and places fit a byte each
pub small_start : (n k r : ℕ) → Small (start_verdict n k r)
unfolding start_verdict rank_verdict
small_start n k r = small_first _ _ (small_sizes n k) (λ passed. small_if Rank _)

pub small_rank : (n k r : ℕ) (xs : List ℕ) (more : ℕ) (ys : List ℕ) → Small (lent_rank_verdict n k r xs more ys)
unfolding lent_rank_verdict rank_verdict
small_rank n k r xs more ys = small_first _ _ (small_buffers n k xs more ys) (λ passed. small_if Rank _)
