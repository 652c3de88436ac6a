-- Rank and unrank are inverses, for every n and k: by induction on the slots, since the last digit and its cell determine each
-- other, and the renamed prefix of a valid arrangement is valid. So two arrangements of one rank are the same. Assumes nothing.
use mathlib.Core.Path.{◌≡◌, refl, sym, ap, ap₂, ◌∙◌}
use mathlib.Core.Logic.{◌≢◌}
use Prim.Native.Nat.{ℕ, zero, suc, ◌+◌, ◌-◌, ◌*◌, ◌/◌, ◌%◌, ◌≤◌, ◌<◌}
use native.Mathlib.Nat.{mod-lt, div-lt_iff_lt-mul, div-add-mod', not-suc-le-zero, le_refl}
use native.Mathlib.Omega.{arith}
use lib.Arith.{digits_lt, digits_div, digits_mod}
use Rattle.rows.proofs.Cases.{by_last, if_lt_lem, if_ge}
use Rattle.sizes.specs.Sizes.{weight}
use Rattle.sizes.proofs.Weights.{weight_zero, weight_suc, weight_pos}
use Rattle.arrangement.specs.Arrangement.{Cell, Valid}
use Rattle.order.specs.Rank.{renamed_module, restored_module, restored_setting, last_digit_lem, module_of, setting_of, prefix_modules, prefix_settings, rank, unrank_modules, unrank_settings}
use Rattle.order.proofs.Renaming.{renamed_cell, restored_renamed_module, restored_renamed_setting, restored_cell, restored_other, renamed_restored_module, renamed_restored_setting}

pub rank_ext : (n k : ℕ) (M S M' S' : ℕ → ℕ) → ((i : ℕ) → i < n → M i ≡ M' i) → ((i : ℕ) → i < n → S i ≡ S' i) → rank n k M S ≡ rank n k M' S'
unfolding rank
rank_ext zero k M S M' S' p q = refl
rank_ext (suc m) k M S M' S' p q =
    ap₂ (λ (a b : ℕ). a * weight m k + b) (ap₂ (last_digit_lem (suc m)) (p m (le_refl _)) (q m (le_refl _)))
    (rank_ext m k (prefix_modules m M) (prefix_settings m k M S) (prefix_modules m M') (prefix_settings m k M' S')
    (λ i h. cc (p i (omega arith), p m (le_refl _)))
    (λ i h. cc (p i (omega arith), p m (le_refl _), q i (omega arith), q m (le_refl _))))

module _ {m k : ℕ} {M S : ℕ → ℕ} (ok : Valid (suc m) k M S) where
  pub last : Cell (suc m) k (M m) (S m)
  last = ok.cell m (le_refl _)

  pub k_low : 1 ≤ k
  k_low = omega (arith, last)

  -- a slot before the last
  module _ {i : ℕ} (h : i < m) where
    pub cell : Cell (suc m) k (M i) (S i)
    cell = ok.cell i (omega arith)

    pub not_last : M m ≢ M i
    not_last e = let q = ok.once m i (le_refl _) (omega arith) e in omega arith

    pub module_back : restored_module (suc m) (M m) (prefix_modules m M i) ≡ M i
    module_back = restored_renamed_module last cell not_last

    pub setting_back : restored_setting (suc m) k (M m) (S m) (prefix_modules m M i) (prefix_settings m k M S i) ≡ S i
    setting_back = restored_renamed_setting last cell not_last

  pub prefix_valid : Valid m k (prefix_modules m M) (prefix_settings m k M S)
  prefix_valid = record {
    cell = λ i h. renamed_cell last (cell h) (not_last h);
    once = λ i j h l e. ok.once i j (omega arith) (omega arith) (sym (module_back h) ∙ ap (restored_module (suc m) (M m)) e ∙ module_back l);
  }

pub last_digit_lt : {n k v c : ℕ} → Cell n k v c → last_digit_lem n v c < k * n
unfolding last_digit_lem
last_digit_lt {n} {k} {v} {c} C = digits_lt C.setting (omega arith)

pub rank_lt : (n k : ℕ) (M S : ℕ → ℕ) → Valid n k M S → rank n k M S < weight n k
unfolding rank
rank_lt zero k M S ok = rw weight_zero (le_refl 1)
rank_lt (suc m) k M S ok = rw weight_suc (digits_lt (last_digit_lt (last ok)) (rank_lt m k _ _ (prefix_valid ok)))

-- ---- the last digit and its cell

pub digit_of_cell : (m d : ℕ) → last_digit_lem (suc m) (module_of (suc m) d) (setting_of (suc m) d) ≡ d
unfolding last_digit_lem module_of setting_of
digit_of_cell m d = let h = mod-lt d {m = suc m} (omega arith) in omega (arith, div-add-mod' d (suc m))

pub cell_of_digit : (m k d : ℕ) → d < k * suc m → Cell (suc m) k (module_of (suc m) d) (setting_of (suc m) d)
unfolding module_of setting_of
cell_of_digit m k d h = omega (arith, mod-lt d {m = suc m} (omega arith), (div-lt_iff_lt-mul {k = suc m} (omega arith)).1 h)

module _ {m k v c : ℕ} (C : Cell (suc m) k v c) where
  pub module_of_digit : module_of (suc m) (last_digit_lem (suc m) v c) ≡ v
  unfolding last_digit_lem module_of
  module_of_digit = omega (arith, digits_mod c {m = suc m} {r = suc m - v} (omega arith))

  pub setting_of_digit : setting_of (suc m) (last_digit_lem (suc m) v c) ≡ c
  unfolding last_digit_lem setting_of
  setting_of_digit = digits_div c {m = suc m} {r = suc m - v} (omega arith)

-- ---- the arrangement of a rank

module _ (m k r : ℕ) where
  pub unrank_module_front : {i : ℕ} → i < m → unrank_modules (suc m) k r i ≡ restored_module (suc m) (module_of (suc m) (r / weight m k)) (unrank_modules m k (r % weight m k) i)
  unfolding unrank_modules
  unrank_module_front h = if_lt_lem _ _ h

  pub unrank_module_last : unrank_modules (suc m) k r m ≡ module_of (suc m) (r / weight m k)
  unfolding unrank_modules
  unrank_module_last = if_ge _ _ (le_refl m)

  pub unrank_setting_front : {i : ℕ} → i < m → unrank_settings (suc m) k r i
      ≡ restored_setting (suc m) k (module_of (suc m) (r / weight m k)) (setting_of (suc m) (r / weight m k)) (unrank_modules m k (r % weight m k) i) (unrank_settings m k (r % weight m k) i)
  unfolding unrank_settings
  unrank_setting_front h = if_lt_lem _ _ h

  pub unrank_setting_last : unrank_settings (suc m) k r m ≡ setting_of (suc m) (r / weight m k)
  unfolding unrank_settings
  unrank_setting_last = if_ge _ _ (le_refl m)

-- over one that is shorter by a slot
module _ (m k r : ℕ) (h : 1 ≤ k) (l : r < weight (suc m) k) (ok : Valid m k (unrank_modules m k (r % weight m k)) (unrank_settings m k (r % weight m k))) where
  top : Cell (suc m) k (module_of (suc m) (r / weight m k)) (setting_of (suc m) (r / weight m k))
  top = cell_of_digit m k _ ((div-lt_iff_lt-mul (weight_pos m k h)).1 (rw weight_suc at l))

  pub prefix_unrank_module : (i : ℕ) → i < m → prefix_modules m (unrank_modules (suc m) k r) i ≡ unrank_modules m k (r % weight m k) i
  prefix_unrank_module i a = rw (unrank_module_last m k r, unrank_module_front m k r a) (renamed_restored_module top (ok.cell i a))

  pub prefix_unrank_setting : (i : ℕ) → i < m → prefix_settings m k (unrank_modules (suc m) k r) (unrank_settings (suc m) k r) i ≡ unrank_settings m k (r % weight m k) i
  prefix_unrank_setting i a = rw (unrank_module_last m k r, unrank_module_front m k r a, unrank_setting_last m k r, unrank_setting_front m k r a) (renamed_restored_setting top (ok.cell i a))

  front_ne : (i : ℕ) → i < m → unrank_modules (suc m) k r i ≢ unrank_modules (suc m) k r m
  front_ne i a e = restored_other top (ok.cell i a) (sym (unrank_module_last m k r) ∙ sym e ∙ unrank_module_front m k r a)

  unrank_one_more : Valid (suc m) k (unrank_modules (suc m) k r) (unrank_settings (suc m) k r)
  unrank_one_more = record {
    cell = λ i z. by_last (λ x. Cell (suc m) k (unrank_modules (suc m) k r x) (unrank_settings (suc m) k r x)) z
        (λ a. rw (unrank_module_front m k r a, unrank_setting_front m k r a) (restored_cell top (ok.cell i a)))
        (rw (unrank_module_last m k r, unrank_setting_last m k r) top);
    once = λ i j y z. by_last (λ x. unrank_modules (suc m) k r x ≡ unrank_modules (suc m) k r j → x ≡ j) y
        (λ a. by_last (λ x. unrank_modules (suc m) k r i ≡ unrank_modules (suc m) k r x → i ≡ x) z
        (λ b e. ok.once i j a b (sym (prefix_unrank_module i a) ∙ ap (renamed_module (suc m) (unrank_modules (suc m) k r m)) e ∙ prefix_unrank_module j b))
        (λ e. absurd (front_ne i a e)))
        (by_last (λ x. unrank_modules (suc m) k r m ≡ unrank_modules (suc m) k r x → m ≡ x) z (λ b e. absurd (front_ne j b (sym e))) (λ e. refl));
  }

pub unrank_valid : (n k r : ℕ) → 1 ≤ k → r < weight n k → Valid n k (unrank_modules n k r) (unrank_settings n k r)
unrank_valid zero k r h l = record { cell = λ i z. absurd (not-suc-le-zero z); once = λ i j z. absurd (not-suc-le-zero z) }
unrank_valid (suc m) k r h l = unrank_one_more m k r h l (unrank_valid m k (r % weight m k) h (mod-lt r (weight_pos m k h)))

pub rank_unrank : (n k r : ℕ) → 1 ≤ k → r < weight n k → rank n k (unrank_modules n k r) (unrank_settings n k r) ≡ r
unfolding rank
rank_unrank zero k r h l = omega (arith, rw weight_zero at l)
rank_unrank (suc m) k r h l =
    ap₂ (λ (a b : ℕ). a * weight m k + b)
    (ap₂ (last_digit_lem (suc m)) (unrank_module_last m k r) (unrank_setting_last m k r) ∙ digit_of_cell m _)
    (rank_ext m k _ _ _ _ (prefix_unrank_module m k r h l ok) (prefix_unrank_setting m k r h l ok) ∙ rank_unrank m k (r % weight m k) h below)
    ∙ div-add-mod' r (weight m k)
  where
    below : r % weight m k < weight m k
    below = mod-lt r (weight_pos m k h)

    ok : Valid m k (unrank_modules m k (r % weight m k)) (unrank_settings m k (r % weight m k))
    ok = unrank_valid m k (r % weight m k) h below

-- ---- an arrangement from its rank

module _ {m k : ℕ} {M S : ℕ → ℕ} (ok : Valid (suc m) k M S) where
  rank_digit : rank (suc m) k M S / weight m k ≡ last_digit_lem (suc m) (M m) (S m)
  unfolding rank
  rank_digit = digits_div _ (rank_lt m k _ _ (prefix_valid ok))

  pub rank_rest : rank (suc m) k M S % weight m k ≡ rank m k (prefix_modules m M) (prefix_settings m k M S)
  unfolding rank
  rank_rest = digits_mod (last_digit_lem (suc m) (M m) (S m)) (rank_lt m k _ _ (prefix_valid ok))

  rank_module : module_of (suc m) (rank (suc m) k M S / weight m k) ≡ M m
  rank_module = rw rank_digit (module_of_digit (last ok))

  rank_setting : setting_of (suc m) (rank (suc m) k M S / weight m k) ≡ S m
  rank_setting = rw rank_digit (setting_of_digit (last ok))

pub unrank_rank_module : (n k : ℕ) (M S : ℕ → ℕ) → Valid n k M S → (i : ℕ) → i < n → unrank_modules n k (rank n k M S) i ≡ M i
unrank_rank_module zero k M S ok i h = absurd (not-suc-le-zero h)
unrank_rank_module (suc m) k M S ok i h =
    by_last (λ x. unrank_modules (suc m) k (rank (suc m) k M S) x ≡ M x) h
    (λ a. unrank_module_front m k _ a ∙ rw (rank_module ok, rank_rest ok, unrank_rank_module m k _ _ (prefix_valid ok) i a) (module_back ok a))
    (unrank_module_last m k _ ∙ rank_module ok)

pub unrank_rank_setting : (n k : ℕ) (M S : ℕ → ℕ) → Valid n k M S → (i : ℕ) → i < n → unrank_settings n k (rank n k M S) i ≡ S i
unrank_rank_setting zero k M S ok i h = absurd (not-suc-le-zero h)
unrank_rank_setting (suc m) k M S ok i h =
    by_last (λ x. unrank_settings (suc m) k (rank (suc m) k M S) x ≡ S x) h
    (λ a. unrank_setting_front m k _ a
    ∙ rw (rank_module ok, rank_setting ok, rank_rest ok, unrank_rank_module m k _ _ (prefix_valid ok) i a, unrank_rank_setting m k _ _ (prefix_valid ok) i a) (setting_back ok a))
    (unrank_setting_last m k _ ∙ rank_setting ok)

-- two arrangements of one rank are the same
module _ {n k : ℕ} {M S M' S' : ℕ → ℕ} (ok : Valid n k M S) (ok' : Valid n k M' S') (e : rank n k M S ≡ rank n k M' S') (i : ℕ) (h : i < n) where
  pub rank_once_module : M i ≡ M' i
  rank_once_module = sym (unrank_rank_module n k M S ok i h) ∙ ap (λ r. unrank_modules n k r i) e ∙ unrank_rank_module n k M' S' ok' i h

  pub rank_once_setting : S i ≡ S' i
  rank_once_setting = sym (unrank_rank_setting n k M S ok i h) ∙ ap (λ r. unrank_settings n k r i) e ∙ unrank_rank_setting n k M' S' ok' i h
