-- The laws of the check. Each search finds nothing exactly where its test holds at no slot, so a Fine verdict says that the
-- arrangement is valid, and a valid arrangement has a Fine verdict. Assumes nothing.
use mathlib.Core.Path.{◌≡◌, refl, sym, ◌∙◌, ap}
use mathlib.Core.Bool.{Bool, true, false, not}
use mathlib.Core.List.{List}
use Prim.Native.Nat.{ℕ, ◌+◌, ◌-◌, ◌<◌, ◌≤◌}
use native.Mathlib.Omega.{arith}
use lib.Dec.{eqb}
use lib.ListN.{length}
use borrow.Author.Tests.{lt-ltb, eq-eqb, ne_eqb, le-leb, lt-leb}
use Rattle.rows.specs.Row.{at}
use Rattle.rows.specs.Search.{outside, lowest}
use Rattle.rows.proofs.Cases.{by_lt, above_range, in_range, inside}
use Rattle.rows.proofs.Searches.{found, lowest_ext, lowest_le, none_holds}
use Rattle.sizes.specs.declared.Fault.{Fault}
use Rattle.sizes.specs.declared.Fault.TheVariants.{Module}
use Rattle.sizes.specs.Refusal.{Verdict, fine, refused_at_lem}
use Rattle.sizes.specs.Sizes.{most_slots}
use Rattle.sizes.proofs.Refusals.{no_place}
use Rattle.arrangement.specs.Check.{bad_module, repeated, bad_setting, Marked}

-- ---- the length of a lent buffer

pub wrong_length : (m n : ℕ) → (m ≡ n → ⊥) → not (eqb m n) ≡ true
wrong_length m n ne = rw (ne_eqb m n ne)

pub right_length : (m n : ℕ) → m ≡ n → not (eqb m n) ≡ false
right_length m n e = rw (eq-eqb m n e)

-- ---- a module that stands twice

module _ (M : ℕ → ℕ) (i : ℕ) where
  -- it stands in no lower slot
  pub stands_once : lowest (λ h. eqb (M h) (M i)) i ≡ 0 → repeated M i ≡ false
  unfolding repeated
  stands_once none = rw none

  -- it stands in slot h
  pub stands_twice : (h : ℕ) → lowest (λ g. eqb (M g) (M i)) h ≡ 0 → M h ≡ M i → h < i → repeated M i ≡ true
  unfolding repeated
  stands_twice h none e l =
      rw (found (λ g. eqb (M g) (M i)) h i none (eq-eqb (M h) (M i) e) l) (lt-ltb 0 (h + 1) (omega arith))

-- ---- the places, as the code searches for them

-- a search over a row of n slots that finds what the test of a check would, made a verdict
pub searched : (fault : Fault) (test other : ℕ → Bool) {m n place : ℕ} {v : Verdict} → m ≡ n → v ≡ refused_at_lem fault place → place ≡ lowest test m →
    lowest test n ≡ lowest other n → v ≡ refused_at_lem fault (lowest other n)
searched fault test other m_is v_is place_is same =
    v_is ∙ ap (refused_at_lem fault) (place_is ∙ ap (lowest test) m_is ∙ same)

-- the place is one of n slots
pub place_le : (test : ℕ → Bool) {m n place : ℕ} → m ≡ n → place ≡ lowest test m → place ≤ n
place_le test {m} m_is place_is = omega (arith, lowest_le test m)

pub module_place : (n : ℕ) (M : ℕ → ℕ) → lowest (λ i. outside 1 n (M i)) n ≡ lowest (bad_module n M) n
unfolding bad_module
module_place n M = lowest_ext _ _ n (λ i h. refl)

pub setting_place : (n k : ℕ) (S : ℕ → ℕ) → 1 ≤ k → lowest (λ i. outside 0 (k - 1) (S i)) n ≡ lowest (bad_setting k S) n
unfolding bad_setting
setting_place n k S low =
    lowest_ext _ _ n
    (λ i h.
    by_lt (S i) k (λ l. in_range 0 (k - 1) (S i) (omega arith) (omega arith) ∙ sym (lt-leb k (S i) l))
    (λ l. above_range 0 (k - 1) (S i) (omega arith) (omega arith) ∙ sym (le-leb k (S i) l)))

-- modules that 5 lets pass can be marked
pub modules_marked : (n : ℕ) (ms : List ℕ) → n ≤ most_slots → length ms ≡ n → fine ≡ refused_at_lem Module (lowest (bad_module n (at ms)) n) → Marked ms
unfolding bad_module
modules_marked n ms n_high same passed = record {
  few = omega arith;
  low = λ i h.
      let range = inside 1 n (at ms i) (none_holds (bad_module n (at ms)) n (no_place Module _ (sym passed)) i (omega arith)) in omega (arith, range.1);
}
