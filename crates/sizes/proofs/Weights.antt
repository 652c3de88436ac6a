-- The laws of the weight, and what the check of n and k comes to. One place more multiplies the weight by k × n, which is not
-- 0, so weights grow with n: the largest n of each k tells all the sizes that have too many arrangements. Assumes nothing.
use mathlib.Core.Path.{◌≡◌, sym, ◌∙◌}
use mathlib.Core.Bool.{Bool}
use mathlib.Core.List.{List, [], ◌∷◌}
use Prim.Native.Nat.{ℕ, zero, suc, ◌+◌, ◌*◌, ◌^◌, ◌≤◌, ◌<◌}
use native.Mathlib.Nat.{mul_assoc, mul_comm, mul_left_comm, pow-succ', le_trans, le_refl, one-le-mul, mul-le-mul_right}
use native.Mathlib.Numerals.{add-one, unary_clauses}
use native.Mathlib.Omega.{arith}
use lib.Dec.{ltb, ltb→lt}
use borrow.Author.Tests.{lt-ltb, le-ltb, ltb-true, ltb-false}
use Rattle.rows.specs.Row.{at}
use Rattle.rows.specs.Search.{outside}
use Rattle.rows.proofs.Cases.{by_lt, inside, in_range}
use Rattle.sizes.specs.declared.Fault.TheVariants.{Slots, Settings, Total}
use Rattle.sizes.specs.Refusal.{fine, refused_if}
use Rattle.sizes.specs.Sizes.{factorial, weight, sizes_verdict, Permitted, most_slots, most_settings, most_arrangements}
use Rattle.sizes.proofs.Grid.{below, passes, same, same_eq}
use Rattle.sizes.proofs.Refusals.{both_fine, no_fault, faultless, last_faultless, Small, small_first, small_if}

-- ---- the weight

-- no place at all
pub weight_zero : (k : ℕ) → weight 0 k ≡ 1
unfolding weight factorial
weight_zero k = simp unary_clauses

-- one place more
pub weight_suc : (n k : ℕ) → weight (suc n) k ≡ k * suc n * weight n k
unfolding weight factorial
weight_suc n k = rw (pow-succ', factorial) (simp (mul_assoc, mul_left_comm (k ^ n) (suc n)))

-- the same as the code has it, the new factor behind
pub one_more : (n k : ℕ) {t : ℕ} → t ≡ weight n k → t * (k * (n + 1)) ≡ weight (n + 1) k
one_more n k e = rw (e, add-one, weight_suc) (mul_comm (weight n k) (k * suc n))

pub weight_pos : (n k : ℕ) → 1 ≤ k → 1 ≤ weight n k
weight_pos zero k h = rw weight_zero (le_refl 1)
weight_pos (suc n) k h = rw weight_suc (one-le-mul (one-le-mul h (omega arith)) (weight_pos n k h))

pub weight_grows : (n k : ℕ) → 1 ≤ k → weight n k ≤ weight (suc n) k
weight_grows n k h =
    let p : 1 ≤ k * suc n = one-le-mul h (omega arith) in
    rw weight_suc (omega (arith, mul-le-mul_right (weight n k) p))

pub weight_mono : (m n k : ℕ) → 1 ≤ k → m ≤ n → weight m k ≤ weight n k
weight_mono m zero k h l = let e : m ≡ 0 = omega arith in rw e (le_refl _)
weight_mono m (suc n) k h l =
    by_lt n m (λ g. let e : m ≡ suc n = omega arith in rw e (le_refl _))
    (λ g. le_trans (weight_mono m n k h g) (weight_grows n k h))

-- ---- the largest n of each k

abbrev pub largest : List ℕ
largest = 0 ∷ 20 ∷ 16 ∷ 14 ∷ 13 ∷ 13 ∷ 12 ∷ 12 ∷ 11 ∷ []

abbrev cell : ℕ → ℕ → Bool
cell k n = same (ltb (at largest (suc k)) n) (ltb most_arrangements (weight n (suc k)))

abbrev line : ℕ → Bool
line k = below (cell k) 22

-- at each k from 1 to 8 and each n up to 21, one past every largest, antt has worked T out
computed : (n k : ℕ) → 1 ≤ k → k ≤ most_settings → n ≤ 21 → ltb (at largest k) n ≡ ltb most_arrangements (weight n k)
unfolding weight factorial
computed n zero h l g = absurd (omega arith)
computed n (suc k) h l g =
    same_eq (ltb (at largest (suc k)) n) (ltb most_arrangements (weight n (suc k))) (passes (cell k) 22 (passes line 8 tt k (omega arith)) n (omega arith))

-- 21 slots are too many for each of them
pub past : (k : ℕ) → 1 ≤ k → k ≤ most_settings → at largest k < 21
past zero h l = absurd (omega arith)
past (suc k) h l = ltb→lt (at largest (suc k)) 21 (passes (λ k. ltb (at largest (suc k)) 21) 8 tt k (omega arith))

-- so the table tells, for every n, whether T is above 2 ^ 64 - 1
pub too_many : (n k : ℕ) → 1 ≤ k → k ≤ most_settings → ltb (at largest k) n ≡ ltb most_arrangements (weight n k)
too_many n k h l =
    by_lt 21 n
    (λ g. let small : at largest k < n = omega (arith, past k h l) in
    let at_21 : most_arrangements < weight 21 k = ltb-true _ _ (sym (computed 21 k h l (le_refl 21)) ∙ lt-ltb _ _ (past k h l)) in
    let large : most_arrangements < weight n k = omega (arith, weight_mono 21 n k h (omega arith), at_21) in
    lt-ltb _ _ small ∙ sym (lt-ltb _ _ large))
    (λ g. computed n k h l g)

-- ---- the check of n and k

-- what is known of sizes that are not refused
pub permitted : (n k : ℕ) → sizes_verdict n k ≡ fine → Permitted n k
unfolding sizes_verdict
permitted n k e =
    let rest = both_fine (refused_if Slots (outside 1 most_slots n)) _ e in
    let last = both_fine (refused_if Settings (outside 1 most_settings k)) _ rest.1 in
    let slots = inside 1 most_slots n (no_fault Slots _ rest.0) in
    let settings = inside 1 most_settings k (no_fault Settings _ last.0) in
    record {
      n_low = slots.0;
      n_high = slots.1;
      k_low = settings.0;
      k_high = settings.1;
      few = ltb-false most_arrangements (weight n k) (no_fault Total _ last.1);
    }

-- and sizes of which that is known are not refused
pub not_refused : (n k : ℕ) → Permitted n k → fine ≡ sizes_verdict n k
unfolding sizes_verdict
not_refused n k p =
    faultless Slots (in_range 1 most_slots n p.n_low p.n_high)
    (faultless Settings (in_range 1 most_settings k p.k_low p.k_high)
    (last_faultless Total (le-ltb most_arrangements (weight n k) p.few)))

-- at permitted sizes, the products by which a weight grows by one place more fit
module _ {n k : ℕ} (p : Permitted n k) (i : ℕ) (h : i < n) where
  pub product_fits : {t : ℕ} → t ≡ weight i k → t * (k * (i + 1)) ≤ most_arrangements
  product_fits e = omega (arith, one_more i k e, weight_mono (i + 1) n k p.k_low (omega arith))

pub small_sizes : (n k : ℕ) → Small (sizes_verdict n k)
unfolding sizes_verdict
small_sizes n k =
    small_first _ _ (small_if Slots _) (λ passed. small_first _ _ (small_if Settings _) (λ passed. small_if Total _))
