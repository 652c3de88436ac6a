-- A test that passes at each number below a bound, which antt computes, passes at any one of them: the last is tested first,
-- and the others are below it. Assumes nothing.
use mathlib.Core.Path.{◌≡◌, refl}
use mathlib.Core.Bool.{Bool, true, false}
use Prim.Native.Nat.{ℕ, zero, suc, ◌<◌}
use native.Mathlib.Nat.{not-suc-le-zero}
use lib.Dec.{T}
use Rattle.rows.proofs.Cases.{by_last}

abbrev pub both : Bool → Bool → Bool
both true b = b
both false b = false

both_left : (a b : Bool) → T (both a b) → T a
both_left true b t = tt
both_left false b t = t

both_right : (a b : Bool) → T (both a b) → T b
both_right true b t = t
both_right false b t = absurd t

-- two tests with the same outcome
abbrev pub same : Bool → Bool → Bool
same true b = b
same false true = false
same false false = true

pub same_eq : (a b : Bool) → T (same a b) → a ≡ b
same_eq true true t = refl
same_eq true false t = absurd t
same_eq false true t = absurd t
same_eq false false t = refl

abbrev pub below : (ℕ → Bool) → ℕ → Bool
below f zero = true
below f (suc n) = both (f n) (below f n)

pub passes : (f : ℕ → Bool) (n : ℕ) → T (below f n) → (k : ℕ) → k < n → T (f k)
passes f zero t k h = absurd (not-suc-le-zero h)
passes f (suc n) t k h =
    by_last (λ m. T (f m)) h (λ l. passes f n (both_right (f n) (below f n) t) k l) (both_left (f n) (below f n) t)
