-- The laws of a flip. The slot from which a module comes is linear in the slot to which it goes, and the same flip brings it
-- back: so a flip moves each module once, and what was valid stays valid. Assumes nothing.
use mathlib.Core.Path.{◌≡◌, ◌∙◌, ap}
use mathlib.Core.List.{List}
use Prim.Native.Nat.{ℕ, suc, ◌+◌, ◌-◌, ◌<◌, ◌≤◌}
use native.Mathlib.Nat.{mod-lt, mod-eq_of_lt, mod_self}
use native.Mathlib.Omega.{arith}
use lib.ListN.{length}
use Rattle.rows.proofs.Cases.{by_lt, if_lt_lem, if_ge, inside}
use Rattle.sizes.specs.declared.Fault.TheVariants.{Flip}
use Rattle.sizes.specs.Refusal.{fine}
use Rattle.sizes.proofs.Refusals.{both_fine, no_fault, Small, small_first, small_if}
use Rattle.arrangement.specs.Arrangement.{Valid}
use Rattle.arrangement.specs.Check.{lent_verdict}
use Rattle.arrangement.proofs.Validity.{accepted, small_lent}
use Rattle.flip.specs.Flip.{raised, source, flipped_modules, flipped_settings, Flippable, flip_length_verdict, flip_verdict}

-- ---- a setting raised by one

pub raised_up : (k s : ℕ) → s + 1 < k → raised k s ≡ s + 1
unfolding raised
raised_up k s h = mod-eq_of_lt h

pub raised_round : (k s : ℕ) → s + 1 ≡ k → raised k s ≡ 0
unfolding raised
raised_round k s e = rw e (mod_self k)

pub raised_lt : (k s : ℕ) → 1 ≤ k → raised k s < k
unfolding raised
raised_lt k s h = mod-lt _ h

-- ---- the slot from which a module comes

pub source_front : (j i : ℕ) → i < j → source j i ≡ j - 1 - i
unfolding source
source_front j i h = if_lt_lem (j - suc i) i h ∙ omega arith

pub source_behind : (j i : ℕ) → j ≤ i → source j i ≡ i
unfolding source
source_behind j i h = if_ge (j - suc i) i h

pub source_lt : (j n i : ℕ) → j ≤ n → i < n → source j i < n
source_lt j n i h l =
    by_lt i j (λ g. omega (arith, source_front j i g)) (λ g. omega (arith, source_behind j i g))

-- no two slots get a module from the same slot
pub source_once : (j i h : ℕ) → source j i ≡ source j h → i ≡ h
source_once j i h e =
    by_lt i j
    (λ a. by_lt h j (λ b. omega (arith, source_front j i a, source_front j h b)) (λ b. omega (arith, source_front j i a, source_behind j h b)))
    (λ a. by_lt h j (λ b. omega (arith, source_behind j i a, source_front j h b)) (λ b. omega (arith, source_behind j i a, source_behind j h b)))

-- ---- the arrangement after a flip

module _ (j : ℕ) (M : ℕ → ℕ) where
  pub module_front : (i : ℕ) → i < j → flipped_modules j M i ≡ M (j - 1 - i)
  unfolding flipped_modules
  module_front i h = ap M (source_front j i h)

  pub module_behind : (i : ℕ) → j ≤ i → flipped_modules j M i ≡ M i
  unfolding flipped_modules
  module_behind i h = ap M (source_behind j i h)

module _ (k j : ℕ) (S : ℕ → ℕ) where
  pub setting_front : (i : ℕ) → i < j → flipped_settings k j S i ≡ raised k (S (j - 1 - i))
  unfolding flipped_settings
  setting_front i h = if_lt_lem _ _ h ∙ ap (λ x. raised k (S x)) (source_front j i h)

  pub setting_behind : (i : ℕ) → j ≤ i → flipped_settings k j S i ≡ S i
  unfolding flipped_settings
  setting_behind i h = if_ge _ _ h

-- a flip of a valid arrangement is valid
pub flipped_valid : {n k j : ℕ} {M S : ℕ → ℕ} → 1 ≤ k → j ≤ n → Valid n k M S → Valid n k (flipped_modules j M) (flipped_settings k j S)
unfolding flipped_modules
flipped_valid {n} {k} {j} {M} {S} k_low h v = record {
  cell = λ i l. record {
    low = (v.cell (source j i) (source_lt j n i h l)).low;
    high = (v.cell (source j i) (source_lt j n i h l)).high;
    setting = by_lt i j (λ g. omega (arith, setting_front k j S i g, raised_lt k (S (j - 1 - i)) k_low))
        (λ g. omega (arith, setting_behind k j S i g, (v.cell i l).setting));
  };
  once = λ a b la lb e. source_once j a b (v.once (source j a) (source j b) (source_lt j n a h la) (source_lt j n b h lb) e);
}

-- ---- the check of a flip

-- a flip that is not refused can be made
pub flippable : (n k j : ℕ) (ms ss : List ℕ) → flip_verdict n k j ms ss ≡ fine → Flippable k j ms ss
unfolding flip_verdict flip_length_verdict
flippable n k j ms ss e =
    let both = both_fine (lent_verdict n k ms ss) _ e in
    let a = accepted n k ms ss both.0 in
    let range = inside 1 n j (no_fault Flip _ both.1) in
    record {
      k_high = a.sizes.k_high;
      j_high = omega arith;
      modules = omega arith;
      settings = omega arith;
      set = λ i h. (a.valid_is.cell i (omega arith)).setting;
    }

-- and is one of two buffers of n bytes
pub flip_lengths : (n k j : ℕ) (ms ss : List ℕ) → flip_verdict n k j ms ss ≡ fine → (length ms ≡ n) × (length ss ≡ n)
unfolding flip_verdict
flip_lengths n k j ms ss e =
    let a = accepted n k ms ss (both_fine (lent_verdict n k ms ss) _ e).0 in (a.modules, a.settings)

-- its numbers and places fit a byte each
pub small_flip : (n k j : ℕ) (ms ss : List ℕ) → Small (flip_verdict n k j ms ss)
unfolding flip_verdict flip_length_verdict
small_flip n k j ms ss = small_first _ _ (small_lent n k ms ss) (λ passed. small_if Flip _)
