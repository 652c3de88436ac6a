-- A walk in the middle of a listing is that of some rank below T, so it tells its rank and moves on: neither is refused, and moved on
-- it is again that of a rank below T. Assumes nothing.
use Rattle.std.proofs.Common.{◌≡◌, ap, ℕ, ◌<◌, ◌≤◌, Result, Ok}
use native.Mathlib.Nat.{mod-lt}
use native.Mathlib.Omega.{arith}
use Rattle.sizes.specs.Refusal.{fine}
use Rattle.sizes.specs.Sizes.{weight, most_slots, Permitted}
use Rattle.sizes.proofs.Refusals.{both_fine}
use Rattle.sizes.proofs.Weights.{weight_pos}
use Rattle.order.specs.Check.{start_verdict}
use Rattle.order.specs.Digits.{flip_out, next_rank}
use Rattle.order.proofs.Checks.{start_asked}
use Rattle.stretch.specs.Stretch.{stretch_verdict}
use Rattle.walk.specs.Hand.{walk_of_lem, handed, makes, tells_rank, moves_on}
use Rattle.walk.specs.declared.hand.Walk.{Walk}
use Rattle.walk.specs.declared.hand.Moved.{Moved}
use Rattle.walk.proofs.Moves.{tells_rank_lem, moves_on_lem}

-- a walk of n slots and k settings at a rank below T
pub record Stands (n k : ℕ) (w : Walk) : Type 0 where
  pub sizes : Permitted n k
  pub rank : ℕ
  pub low : rank < weight n k
  pub walk_is : w ≡ walk_of_lem n k rank

-- the values of two answers that are one
same_value : {A E : Type 0} {r : Result A E} {x y : A} → r ≡ Ok x → r ≡ Ok y → x ≡ y
same_value p q = cc

-- at the start of a stretch that is not refused
module _ (n k r t : ℕ) (passed : stretch_verdict n k r t ≡ fine) where
  start_fine : start_verdict n k r ≡ fine
  unfolding stretch_verdict
  start_fine = (both_fine (start_verdict n k r) _ passed).0

  pub made : makes n k r ≡ Ok (walk_of_lem n k r)
  unfolding makes handed
  made = rw start_fine

  pub stands_first : {w : Walk} → makes n k r ≡ Ok w → Stands n k w
  stands_first is =
      let start = start_asked n k r start_fine in
      record { sizes = start.0; rank = r; low = start.1; walk_is = same_value is made }

module _ {n k : ℕ} {w : Walk} (stands : Stands n k w) where
  pub few_slots : w.n ≤ most_slots
  unfolding walk_of_lem
  few_slots = omega (arith, ap (λ (walk : Walk). walk.n) stands.walk_is, stands.sizes.n_high)

  pub rank_told : tells_rank w ≡ Ok stands.rank
  rank_told = rw stands.walk_is (tells_rank_lem n k stands.rank stands.sizes stands.low)

  pub moved : moves_on w ≡ Ok (record { flip = flip_out n k stands.rank; walk = walk_of_lem n k (next_rank n k stands.rank) })
  moved = rw stands.walk_is (moves_on_lem n k stands.rank stands.sizes stands.low)

  pub stands_next : {m : Moved} → moves_on w ≡ Ok m → Stands n k m.walk
  unfolding next_rank
  stands_next is = record {
    sizes = stands.sizes;
    rank = next_rank n k stands.rank;
    low = mod-lt _ (weight_pos n k stands.sizes.k_low);
    walk_is = ap (λ (moved : Moved). moved.walk) (same_value is moved);
  }
