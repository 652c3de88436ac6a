-- A fine verdict says that the arrangement is valid, and a valid arrangement has a fine verdict: each of the three searches
-- finds nothing exactly where its test holds at no slot. Home is valid at every size. Assumes nothing.
use mathlib.Core.Path.{◌≡◌, sym, ◌∙◌}
use mathlib.Core.List.{List}
use Prim.Native.Nat.{ℕ, ◌+◌, ◌<◌, ◌≤◌}
use native.Mathlib.Omega.{arith}
use lib.Dec.{eqb}
use lib.ListN.{length}
use borrow.Author.Tests.{not-false, eqb-true, eqb-false, ne_eqb, ltb-false, leb-false, lt-leb}
use Rattle.rows.specs.Row.{at}
use Rattle.rows.specs.Search.{lowest}
use Rattle.rows.proofs.Cases.{by_lt, in_range, inside}
use Rattle.rows.proofs.Searches.{none_holds, holds_nowhere, lowest_ext, lowest_le}
use Rattle.sizes.specs.declared.Fault.TheVariants.{Length, Module, Repeat, Setting}
use Rattle.sizes.specs.Refusal.{fine, first, refused_at_lem}
use Rattle.sizes.specs.Sizes.{Permitted, sizes_verdict, most_slots}
use Rattle.sizes.proofs.Refusals.{both_fine, no_fault, no_place, faultless, last_faultless, Small, small_first, small_if, small_at}
use Rattle.sizes.proofs.Weights.{permitted, not_refused, small_sizes}
use Rattle.arrangement.specs.Arrangement.{Valid, home_modules, home_settings}
use Rattle.arrangement.specs.Check.{length_verdict, buffers_verdict, bad_module, repeated, bad_setting, slots_verdict, lent_verdict}
use Rattle.arrangement.proofs.Checks.{stands_once, right_length}

-- ---- 5, 6 and 7

module _ (n k : ℕ) (M S : ℕ → ℕ) where
  -- no module of two slots is the same where none is repeated
  apart : lowest (repeated M) n ≡ 0 → (h i : ℕ) → h < i → i < n → M h ≡ M i → ⊥
  unfolding repeated
  apart none h i l m e =
      let low = ltb-false 0 (lowest (λ g. eqb (M g) (M i)) i) (none_holds (repeated M) n none i m) in
      let zero_is : lowest (λ g. eqb (M g) (M i)) i ≡ 0 = omega arith in
      eqb-false (M h) (M i) (none_holds (λ g. eqb (M g) (M i)) i zero_is h l) e

  pub valid : slots_verdict n k M S ≡ fine → Valid n k M S
  unfolding slots_verdict bad_module bad_setting
  valid e =
      let rest = both_fine (refused_at_lem Module (lowest (bad_module n M) n)) _ e in
      let last = both_fine (refused_at_lem Repeat (lowest (repeated M) n)) _ rest.1 in
      let six = no_place Repeat _ last.0 in
      record {
        cell = λ i h.
            let module_in_lem = inside 1 n (M i) (none_holds (bad_module n M) n (no_place Module _ rest.0) i h) in
            let setting_in_lem = leb-false k (S i) (none_holds (bad_setting k S) n (no_place Setting _ last.1) i h) in
            record { low = module_in_lem.0; high = module_in_lem.1; setting = setting_in_lem };
        once = λ i j hi hj same.
            by_lt i j (λ l. absurd (apart six i j l hj same))
            (λ g. by_lt j i (λ l. absurd (apart six j i l hi (sym same))) (λ l. omega arith));
      }

  pub valid_fine : Valid n k M S → fine ≡ slots_verdict n k M S
  unfolding slots_verdict refused_at_lem first bad_module bad_setting
  valid_fine v =
      rw (
        holds_nowhere (bad_module n M) n (λ i h. in_range 1 n (M i) (v.cell i h).low (v.cell i h).high),
        holds_nowhere (repeated M) n
            (λ i h. stands_once M i (holds_nowhere _ i (λ g l. ne_eqb (M g) (M i) (λ e. let same = v.once g i (omega arith) h e in omega arith)))),
        holds_nowhere (bad_setting k S) n (λ i h. lt-leb k (S i) (v.cell i h).setting),
      )

-- what agrees with a valid arrangement on its slots is valid
pub valid_ext : {n k : ℕ} {M S M' S' : ℕ → ℕ} → ((i : ℕ) → i < n → M i ≡ M' i) → ((i : ℕ) → i < n → S i ≡ S' i) → Valid n k M S → Valid n k M' S'
valid_ext {n} {k} {M} {S} {M'} {S'} same_m same_s v = record {
  cell = λ i h. let was = v.cell i h in omega (arith, same_m i h, same_s i h);
  once = λ i j hi hj e. v.once i j hi hj (same_m i hi ∙ e ∙ sym (same_m j hj));
}

-- the verdict is that of every arrangement that agrees on the slots
pub slots_ext : (n k : ℕ) (M S M' S' : ℕ → ℕ) → ((i : ℕ) → i < n → M i ≡ M' i) → ((i : ℕ) → i < n → S i ≡ S' i) → slots_verdict n k M S ≡ slots_verdict n k M' S'
unfolding slots_verdict bad_module bad_setting repeated
slots_ext n k M S M' S' same_m same_s =
    rw (
      lowest_ext (bad_module n M) (bad_module n M') n (λ i l. rw (same_m i l)),
      lowest_ext (repeated M) (repeated M') n (λ i l. rw (lowest_ext (λ h. eqb (M h) (M i)) (λ h. eqb (M' h) (M' i)) i (λ h g. rw (same_m h (omega arith), same_m i l)))),
      lowest_ext (bad_setting k S) (bad_setting k S') n (λ i l. rw (same_s i l)),
    )

-- ---- two lent buffers

-- what the check of 1 to 4 lets pass
pub record Fit (n k : ℕ) (xs : List ℕ) (more : ℕ) (ys : List ℕ) : Type 0 where
  pub sizes : Permitted n k
  pub one : length xs ≡ n
  pub two : length ys ≡ n + more

-- a buffer that is not refused has its length
pub has_length : (n : ℕ) (xs : List ℕ) → length_verdict n xs ≡ fine → length xs ≡ n
unfolding length_verdict
has_length n xs e = eqb-true (length xs) n (not-false _ (no_fault Length _ e))

pub fit : (n k : ℕ) (xs : List ℕ) (more : ℕ) (ys : List ℕ) → buffers_verdict n k xs more ys ≡ fine → Fit n k xs more ys
unfolding buffers_verdict
fit n k xs more ys e =
    let lengths = both_fine (sizes_verdict n k) _ e in
    let both = both_fine (length_verdict n xs) _ lengths.1 in
    record { sizes = permitted n k lengths.0; one = has_length n xs both.0; two = has_length (n + more) ys both.1 }

-- and where all that holds, nothing is refused
pub fit_fine : (n k : ℕ) (xs : List ℕ) (more : ℕ) (ys : List ℕ) → Fit n k xs more ys → fine ≡ buffers_verdict n k xs more ys
unfolding buffers_verdict length_verdict first
fit_fine n k xs more ys f =
    rw (← not_refused n k f.sizes) (faultless Length (right_length _ _ f.one) (last_faultless Length (right_length _ _ f.two)))

-- ---- an arrangement in two lent buffers

pub record Accepted (n k : ℕ) (ms ss : List ℕ) : Type 0 where
  pub sizes : Permitted n k
  pub modules : length ms ≡ n
  pub settings : length ss ≡ n
  pub valid_is : Valid n k (at ms) (at ss)

pub accepted : (n k : ℕ) (ms ss : List ℕ) → lent_verdict n k ms ss ≡ fine → Accepted n k ms ss
unfolding lent_verdict
accepted n k ms ss e =
    let both = both_fine (buffers_verdict n k ms 0 ss) _ e in
    let lent = fit n k ms 0 ss both.0 in
    record { sizes = lent.sizes; modules = lent.one; settings = omega arith; valid_is = valid n k (at ms) (at ss) both.1 }

-- and where all that holds, nothing is refused
pub accepted_fine : (n k : ℕ) (ms ss : List ℕ) → Accepted n k ms ss → fine ≡ lent_verdict n k ms ss
unfolding lent_verdict first
accepted_fine n k ms ss a =
    rw (← fit_fine n k ms 0 ss (record { sizes = a.sizes; one = a.modules; two = omega (arith, a.settings) }))
    (valid_fine n k (at ms) (at ss) a.valid_is)

-- ---- home

pub home_valid : (n k : ℕ) → 1 ≤ k → Valid n k home_modules home_settings
unfolding home_modules home_settings
home_valid n k h = record {
  cell = λ i l. record { low = omega arith; high = l; setting = h };
  once = λ i j li lj e. omega arith;
}

-- ---- numbers and places fit a byte each

pub small_slots : (n k : ℕ) (M S : ℕ → ℕ) → n ≤ most_slots → Small (slots_verdict n k M S)
unfolding slots_verdict
small_slots n k M S h =
    small_first _ _ (small_at Module _ (omega (arith, lowest_le (bad_module n M) n)))
    (λ passed. small_first _ _ (small_at Repeat _ (omega (arith, lowest_le (repeated M) n)))
    (λ passed. small_at Setting _ (omega (arith, lowest_le (bad_setting k S) n))))

pub small_buffers : (n k : ℕ) (xs : List ℕ) (more : ℕ) (ys : List ℕ) → Small (buffers_verdict n k xs more ys)
unfolding buffers_verdict length_verdict
small_buffers n k xs more ys =
    small_first _ _ (small_sizes n k) (λ passed. small_first _ _ (small_if Length _) (λ passed. small_if Length _))

pub small_lent : (n k : ℕ) (ms ss : List ℕ) → Small (lent_verdict n k ms ss)
unfolding lent_verdict
small_lent n k ms ss =
    small_first _ _ (small_buffers n k ms 0 ss)
    (λ passed. small_slots n k (at ms) (at ss) (fit n k ms 0 ss passed).sizes.n_high)
