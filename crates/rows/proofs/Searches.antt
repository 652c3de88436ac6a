-- The laws of `lowest`. A slot at which a test holds, with none below it, stays the lowest however many slots follow; so a
-- loop that looks from the front and has found nothing yet knows that `lowest` of the slots passed is 0. Assumes nothing.
use mathlib.Core.Path.{◌≡◌, refl, sym, ◌∙◌}
use mathlib.Core.Bool.{Bool, true, false, cond}
use Prim.Native.Nat.{ℕ, zero, suc, ◌+◌, ◌<◌, ◌≤◌}
use native.Mathlib.Nat.{not-suc-le-zero}
use native.Mathlib.Numerals.{add-one}
use native.Mathlib.Omega.{arith}
use Rattle.rows.specs.Search.{or_else, lowest}
use Rattle.rows.proofs.Cases.{by_last, by_test, by_lt}

or_none : (a b : ℕ) → or_else a b ≡ 0 → (a ≡ 0) × (b ≡ 0)
unfolding or_else
or_none zero b e = (refl, e)
or_none (suc a) b e = absurd (omega arith)

-- ---- a loop that looks from the front

-- before its first turn
pub none_yet : (test : ℕ → Bool) → lowest test 0 ≡ 0
unfolding lowest
none_yet test = refl

-- the test did not hold, and does not hold at the next slot
pub passed : (test : ℕ → Bool) (i : ℕ) → lowest test i ≡ 0 → test i ≡ false → lowest test (i + 1) ≡ 0
unfolding lowest or_else
passed test i none miss = rw (add-one, lowest, none, miss)

-- it did not hold, and holds at the next slot: that stays the lowest
pub found : (test : ℕ → Bool) (i n : ℕ) → lowest test i ≡ 0 → test i ≡ true → i < n → lowest test n ≡ i + 1
unfolding lowest or_else
found test i zero none hit h = absurd (not-suc-le-zero h)
found test i (suc n) none hit h =
    by_lt i n (λ l. rw (found test i n none hit l, add-one, or_else))
    (λ l. let e : n ≡ i = omega arith in rw (e, none, hit, add-one))

-- ---- what the lowest slot says

-- where there is none, the test holds at no slot
pub none_holds : (test : ℕ → Bool) (n : ℕ) → lowest test n ≡ 0 → (i : ℕ) → i < n → test i ≡ false
unfolding lowest
none_holds test zero e i h = absurd (not-suc-le-zero h)
none_holds test (suc n) e i h =
    let w = or_none (lowest test n) _ e in
    by_last (λ x. test x ≡ false) h (λ l. none_holds test n w.0 i l)
    (by_test (test n) (λ t. let z : suc n ≡ 0 = sym (rw t) ∙ w.1 in absurd (omega arith)) (λ f. f))

-- where the test holds at no slot, there is none
pub holds_nowhere : (test : ℕ → Bool) (n : ℕ) → ((i : ℕ) → i < n → test i ≡ false) → lowest test n ≡ 0
unfolding lowest or_else
holds_nowhere test zero all = refl
holds_nowhere test (suc n) all =
    rw (holds_nowhere test n (λ i h. all i (omega arith)), all n (omega arith))

-- by cases: it holds at none of n slots, or at one and at none below that
pub by_lowest : {P : Type 0} (test : ℕ → Bool) (n : ℕ) → (((i : ℕ) → i < n → test i ≡ false) → lowest test n ≡ 0 → P) →
    ((i : ℕ) → i < n → test i ≡ true → ((h : ℕ) → h < i → test h ≡ false) → lowest test n ≡ suc i → P) → P
unfolding lowest or_else
by_lowest test zero none one = none (λ i h. absurd (not-suc-le-zero h)) refl
by_lowest test (suc n) none one =
    by_lowest test n
    (λ all z. by_test (test n) (λ t. one n (omega arith) t all (rw (z, t)))
    (λ f. none (λ i h. by_last (λ x. test x ≡ false) h (λ l. all i l) f) (rw (z, f))))
    (λ i h t low e. one i (omega arith) t low (rw (e, or_else)))

-- two tests that agree on each slot have the same lowest
pub lowest_ext : (test other : ℕ → Bool) (n : ℕ) → ((i : ℕ) → i < n → test i ≡ other i) → lowest test n ≡ lowest other n
unfolding lowest
lowest_ext test other zero e = refl
lowest_ext test other (suc n) e = rw (lowest_ext test other n (λ i h. e i (omega arith)), e n (omega arith))

-- it is no further than the last slot
pub lowest_le : (test : ℕ → Bool) (n : ℕ) → lowest test n ≤ n
unfolding lowest or_else
lowest_le test zero = omega arith
lowest_le test (suc n) =
    by_lt 0 (lowest test n)
    (λ l. omega (arith, or_some (lowest test n) (cond (test n) (suc n) 0) l, lowest_le test n))
    (λ l. let z : lowest test n ≡ 0 = omega arith in rw z (last (test n)))
  where
    or_some : (a b : ℕ) → 0 < a → or_else a b ≡ a
    or_some zero b h = absurd (omega arith)
    or_some (suc a) b h = refl

    last : (b : Bool) → cond b (suc n) 0 ≤ suc n
    last true = omega arith
    last false = omega arith

-- ---- whether there is one, with one slot more

-- the test holds at the next slot
pub holds_next : (test : ℕ → Bool) (i : ℕ) → test i ≡ true → 0 < lowest test (i + 1)
unfolding lowest
holds_next test i t = rw (add-one, lowest, t) (some (lowest test i))
  where
    some : (a : ℕ) → 0 < or_else a (suc i)
    some zero = unfold or_else in omega arith
    some (suc a) = unfold or_else in omega arith

-- it does not
pub same_next : (test : ℕ → Bool) (i : ℕ) → test i ≡ false → lowest test (i + 1) ≡ lowest test i
unfolding lowest
same_next test i f = rw (add-one, lowest, f) (none (lowest test i))
  where
    none : (a : ℕ) → or_else a 0 ≡ a
    none zero = unfold or_else in refl
    none (suc a) = unfold or_else in refl
