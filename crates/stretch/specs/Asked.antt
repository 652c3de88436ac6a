-- What the functions on stretches ask of their callers, who have made the checks.
use Rattle.std.specs.Prelude.{ℕ, suc, ◌≤◌, ◌<◌, ◌≡◌, Bool, false, cond, leb, eqb}
use Rattle.sizes.specs.Sizes.{weight, Permitted}
use Rattle.order.specs.Rank.{unrank_modules, unrank_settings}
use Rattle.stretch.specs.Stretch.{most_counted}

-- a stretch
pub record StretchAsked (n k r t : ℕ) : Type 0 where
  pub sizes : Permitted n k
  pub rank : r < weight n k
  pub count : t ≤ most_counted

-- where module v stands in an arrangement: in slot x, at setting s; x is n where it stands in none of the n slots
pub record Seated (n k : ℕ) (M S : ℕ → ℕ) (v x s : ℕ) : Type 0 where
  pub high : x ≤ n
  pub setting : s < k
  pub here : x < n → (M x ≡ v) × (S x ≡ s)
  pub only : (i : ℕ) → i < n → M i ≡ v → i ≡ x

-- and where it stands in the arrangement of rank r
abbrev pub SeatedAt : (n k r v x s : ℕ) → Type 0
SeatedAt n k r v x s = Seated n k (unrank_modules n k r) (unrank_settings n k r) v x s

-- of two seats, slot x at setting s and slot y at setting u: y is the next after x and one of n slots, s is c and u is e
unfoldable pub together : ℕ → ℕ → ℕ → ℕ → ℕ → ℕ → ℕ → Bool
together n x s y u c e = cond (eqb (suc x) y) (cond (leb n y) false (cond (eqb s c) (eqb u e) false)) false
