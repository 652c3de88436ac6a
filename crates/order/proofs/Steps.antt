-- The step: the flip that the digits of a rank name leads to the next rank. A flip shorter than n leaves the last slot, and
-- renaming goes with it, so induction serves. A flip of all n slots meets a prefix whose digits are all full, so that it is the
-- last arrangement, renamed; after the flip the prefix is home, renamed, and the last digit is one more. Assumes nothing.
use mathlib.Core.Path.{◌≡◌, refl, sym, ap, ap₂, ◌∙◌}
use mathlib.Core.Logic.{◌≢◌}
use Prim.Native.Nat.{ℕ, zero, suc, ◌+◌, ◌-◌, ◌*◌, ◌%◌, ◌≤◌, ◌<◌}
use native.Mathlib.Nat.{mod-eq_of_lt, mul-pos, not-suc-le-zero, le_refl, mod-add-mod, add-mod_right}
use native.Mathlib.Omega.{arith}
use lib.Arith.{digits_lt}
use Rattle.rows.specs.Search.{if_lt}
use Rattle.rows.proofs.Cases.{by_lt, by_last, if_lt_lem, if_ge}
use Rattle.sizes.specs.Sizes.{weight}
use Rattle.sizes.proofs.Weights.{weight_zero, weight_suc, weight_pos}
use Rattle.arrangement.specs.Arrangement.{Cell, Valid, home_modules, home_settings}
use Rattle.flip.specs.Flip.{raised, source, flipped_modules, flipped_settings}
use Rattle.flip.proofs.Flips.{flipped_valid, raised_lt, source_front, source_behind, module_front, module_behind, setting_front, setting_behind}
use Rattle.order.specs.Rank.{raised_by, lowered_by, renamed_module, renamed_setting, restored_module, restored_setting, last_digit_lem, prefix_modules, prefix_settings, rank, unrank_modules, unrank_settings, last_modules, last_settings}
use Rattle.order.specs.Digits.{flip_out, next_rank}
use Rattle.order.proofs.Renaming.{lowered_raised, lowered_once_more, lowered_self, renamed_above, renamed_below, setting_above, setting_below, restored_above, restored_below, restored_setting_above, restored_setting_below}
use Rattle.order.proofs.Ranks.{rank_ext, rank_lt, rank_rest, prefix_valid, last, k_low, last_digit_lt, module_back, setting_back, rank_once_module, rank_once_setting, rank_unrank, unrank_valid, unrank_rank_module, unrank_rank_setting}
use Rattle.order.proofs.Digits.{IsFlip, Full, flip_out_lem, full_of, full_digit, full_down, rest_of_rest, mul_mod_mul}

-- ---- home and the last arrangement

pub rank_home : (m k : ℕ) → rank m k home_modules home_settings ≡ 0
unfolding rank last_digit_lem home_modules home_settings
rank_home zero k = refl
rank_home (suc m) k =
    ap₂ (λ (a b : ℕ). a * weight m k + b) top
    (rank_ext m k _ _ _ _
    (λ i h. omega (arith, renamed_below (suc m) (suc m) (suc i) (omega arith) (le_refl _)))
    (λ i h. setting_below k (suc m) 0 (suc i) 0 (omega arith) ∙ lowered_self k 0 (omega arith)) ∙ rank_home m k)
    ∙ omega arith
  where
    top : last_digit_lem (suc m) (suc m) 0 ≡ 0
    top = omega arith

lower_all : (k : ℕ) → 1 ≤ k → lowered_by k (k - 1) k ≡ k - 1
unfolding lowered_by
lower_all k h = ap (λ x. x % k) (omega arith) ∙ mod-eq_of_lt {n = k - 1} (omega arith)

pub rank_last : (m k : ℕ) → 1 ≤ k → suc (rank m k (last_modules m) (last_settings k)) ≡ weight m k
unfolding rank last_digit_lem last_modules last_settings
rank_last zero k h = sym (weight_zero k)
rank_last (suc m) zero h = elim h [ ]
rank_last (suc m) (suc j) h =
    let ih = rank_last m (suc j) h in
    let e : rank m (suc j) (prefix_modules m (λ i. suc m - i)) (prefix_settings m (suc j) (λ i. suc m - i) (λ i. suc j - 1)) ≡ rank m (suc j) (λ i. m - i) (λ i. suc j - 1)
    = rank_ext m (suc j) _ _ _ _
    (λ i l. omega (arith, renamed_above (suc m) (suc m - m) (suc m - i) (omega arith)))
    (λ i l. setting_above (suc j) (suc m - m) (suc j - 1) (suc m - i) (suc j - 1) (omega arith) ∙ ap (lowered_by (suc j) (suc j - 1)) (omega arith) ∙ lower_all (suc j) h) in
    let d : (suc j - 1) * suc m + (suc m - (suc m - m)) ≡ j * suc m + m = ap₂ (λ (a b : ℕ). a * suc m + b) (omega arith) (omega arith) in
    omega (arith, weight_suc m (suc j), ap (λ x. x * weight m (suc j)) d)

pub valid_last : (m k : ℕ) → 1 ≤ k → Valid m k (last_modules m) (last_settings k)
unfolding last_modules last_settings
valid_last m k h = record { cell = λ i l. omega arith; once = λ i j a b e. omega arith }

-- ---- a flip that leaves the last slot alone

renamed_raised : (k v c w s : ℕ) → renamed_setting k v c w (raised k s) ≡ raised k (renamed_setting k v c w s)
unfolding renamed_setting
renamed_raised k v c w s = lowered_raised k s _

module _ (m k j : ℕ) (M S : ℕ → ℕ) (l : j ≤ m) where
  prefix_flip_module : (i : ℕ) → prefix_modules m (flipped_modules j M) i ≡ flipped_modules j (prefix_modules m M) i
  unfolding flipped_modules
  prefix_flip_module i = ap (λ x. renamed_module (suc m) (M x) (M (source j i))) (source_behind j m l)

  prefix_flip_setting : (i : ℕ) → prefix_settings m k (flipped_modules j M) (flipped_settings k j S) i ≡ flipped_settings k j (prefix_settings m k M S) i
  prefix_flip_setting i =
      rw (module_behind j M m l, setting_behind k j S m l)
      (by_lt i j
      (λ a. rw (module_front j M i a, setting_front k j S i a, setting_front k j (prefix_settings m k M S) i a) (renamed_raised k (M m) (S m) (M (j - 1 - i)) (S (j - 1 - i))))
      (λ a. rw (module_behind j M i a, setting_behind k j S i a, setting_behind k j (prefix_settings m k M S) i a)))

-- ---- the flip of all slots

-- after it, where v:c was last: slot i has the module restored_module (suc m) v i, and this setting
rolled_setting : ℕ → ℕ → ℕ → ℕ → ℕ → ℕ
rolled_setting n k v c i = if_lt n (v + i) c (raised k c)

module _ {m k v c : ℕ} (L : Cell (suc m) k v c) where
  rolled_below : (i : ℕ) → suc m < v + i → rolled_setting (suc m) k v c i ≡ c
  unfolding rolled_setting
  rolled_below i l = if_lt_lem _ _ l

  rolled_above : (i : ℕ) → v + i ≤ suc m → rolled_setting (suc m) k v c i ≡ raised k c
  unfolding rolled_setting
  rolled_above i l = if_ge _ _ l

  rolled_prefix_module : (i : ℕ) → i < m → prefix_modules m (restored_module (suc m) v) i ≡ home_modules i
  unfolding home_modules
  rolled_prefix_module i h = by_lt (suc m) (v + m)
      (λ a. let x = restored_below (suc m) v m a in by_lt (suc m) (v + i)
      (λ b. let y = restored_below (suc m) v i b in omega (arith, renamed_below (suc m) (restored_module (suc m) v m) (restored_module (suc m) v i) (omega arith) (omega arith)))
      (λ b. let y = restored_above (suc m) v i b in omega (arith, renamed_above (suc m) (restored_module (suc m) v m) (restored_module (suc m) v i) (omega arith))))
      (λ a. let x = restored_above (suc m) v m a in let y = restored_above (suc m) v i (omega arith) in
      omega (arith, renamed_below (suc m) (restored_module (suc m) v m) (restored_module (suc m) v i) (omega arith) (omega arith)))

  rolled_prefix_setting : (i : ℕ) → i < m → prefix_settings m k (restored_module (suc m) v) (rolled_setting (suc m) k v c) i ≡ home_settings i
  unfolding home_settings
  rolled_prefix_setting i h = by_lt (suc m) (v + m)
      (λ a. let x = restored_below (suc m) v m a in by_lt (suc m) (v + i)
      (λ b. let y = restored_below (suc m) v i b in setting_below k _ _ _ _ (omega arith) ∙ ap₂ (lowered_by k) (rolled_below i b) (rolled_below m a) ∙ lowered_self k c (omega arith))
      (λ b. let y = restored_above (suc m) v i b in
      setting_above k _ _ _ _ (omega arith) ∙ ap₂ (lowered_by k) (rolled_above i b) (ap suc (rolled_below m a)) ∙ lowered_once_more k c c L.setting ∙ lowered_self k c (omega arith)))
      (λ a. let x = restored_above (suc m) v m a in let y = restored_above (suc m) v i (omega arith) in
      setting_below k _ _ _ _ (omega arith) ∙ ap₂ (lowered_by k) (rolled_above i (omega arith)) (rolled_above m a) ∙ lowered_self k (raised k c) (omega (arith, raised_lt k c (omega arith))))

  rolled_digit : last_digit_lem (suc m) (restored_module (suc m) v m) (rolled_setting (suc m) k v c m) ≡ (last_digit_lem (suc m) v c + 1) % (k * suc m)
  unfolding last_digit_lem raised
  rolled_digit = by_lt (suc m) (v + m)
      (λ a. let x = restored_below (suc m) v m a in
      let C : Cell (suc m) k (v - 1) c = omega arith in
      rw (rolled_below m a) (omega arith ∙ sym (mod-eq_of_lt {n = last_digit_lem (suc m) v c + 1} (omega (arith, last_digit_lt C)))))
      (λ a. let x = restored_above (suc m) v m a in
      let e : raised k c * suc m + (suc m - restored_module (suc m) v m) ≡ raised k c * suc m = omega arith in
      rw (rolled_above m a) (e ∙ sym (ap (λ t. t % (k * suc m)) (omega arith) ∙ mul_mod_mul (c + 1) k (suc m) (omega arith) (omega arith))))

  rank_rolled : rank (suc m) k (restored_module (suc m) v) (rolled_setting (suc m) k v c) ≡ (last_digit_lem (suc m) v c + 1) % (k * suc m) * weight m k
  unfolding rank
  rank_rolled = ap₂ (λ (a b : ℕ). a * weight m k + b) rolled_digit (rank_ext m k _ _ _ _ rolled_prefix_module rolled_prefix_setting ∙ rank_home m k) ∙ omega arith

pub raised_to : (k c : ℕ) → c < k → raised k (raised_by k (k - 1) c) ≡ c
unfolding raised raised_by
raised_to k c l = mod-add-mod _ _ _ ∙ ap (λ x. x % k) (omega arith) ∙ add-mod_right c k ∙ mod-eq_of_lt l

raised_past : (k c : ℕ) → 1 ≤ k → raised k (raised_by k (k - 1) (suc c)) ≡ raised k c
unfolding raised raised_by
raised_past k c h = mod-add-mod _ _ _ ∙ ap (λ x. x % k) (omega arith) ∙ add-mod_right (c + 1) k

-- where the prefix is the last arrangement, the flip of all slots rolls
module _ {m k : ℕ} {M S : ℕ → ℕ} (ok : Valid (suc m) k M S)
    (p_m : (i : ℕ) → i < m → prefix_modules m M i ≡ last_modules m i) (p_s : (i : ℕ) → i < m → prefix_settings m k M S i ≡ last_settings k i) where
  module_before : (i : ℕ) → 1 ≤ i → i < suc m → M (m - i) ≡ restored_module (suc m) (M m) i
  unfolding last_modules
  module_before i a b = sym (module_back ok {i = m - i} (omega arith)) ∙ ap (restored_module (suc m) (M m)) (p_m (m - i) (omega arith) ∙ omega arith)

  setting_before : (i : ℕ) → 1 ≤ i → i < suc m → S (m - i) ≡ restored_setting (suc m) k (M m) (S m) i (k - 1)
  unfolding last_modules last_settings
  setting_before i a b =
      sym (setting_back ok {i = m - i} (omega arith))
      ∙ ap₂ (restored_setting (suc m) k (M m) (S m)) (p_m (m - i) (omega arith) ∙ omega arith) (p_s (m - i) (omega arith))

  all_module : (i : ℕ) → i < suc m → flipped_modules (suc m) M i ≡ restored_module (suc m) (M m) i
  unfolding flipped_modules
  all_module zero h =
      let e : suc m - 1 - 0 ≡ m = omega arith in ap M (source_front _ _ h ∙ e) ∙ omega (arith, restored_above (suc m) (M m) 0 (omega (arith, last ok)))
  all_module (suc i) h = ap M (source_front _ _ h ∙ omega arith) ∙ module_before (suc i) (omega arith) h

  all_setting : (i : ℕ) → i < suc m → flipped_settings k (suc m) S i ≡ rolled_setting (suc m) k (M m) (S m) i
  unfolding flipped_settings rolled_setting
  all_setting zero h = if_lt_lem _ _ h ∙ ap (λ x. raised k (S x)) (source_front _ _ h ∙ omega arith) ∙ sym (if_ge _ _ (omega (arith, last ok)))
  all_setting (suc i) h =
      if_lt_lem _ _ h ∙ ap (λ x. raised k (S x)) (source_front _ _ h ∙ omega arith) ∙ ap (raised k) (setting_before (suc i) (omega arith) h)
      ∙ by_lt (suc m) (M m + suc i)
      (λ l. ap (raised k) (restored_setting_below k (M m) (S m) (suc m) (suc i) (k - 1) l) ∙ raised_to k (S m) (last ok).setting ∙ sym (if_lt_lem _ _ l))
      (λ l. ap (raised k) (restored_setting_above k (M m) (S m) (suc m) (suc i) (k - 1) l) ∙ raised_past k (S m) (k_low ok) ∙ sym (if_ge _ _ l))

  rank_all : rank (suc m) k (flipped_modules (suc m) M) (flipped_settings k (suc m) S) ≡ (last_digit_lem (suc m) (M m) (S m) + 1) % (k * suc m) * weight m k
  rank_all = rank_ext (suc m) k _ _ _ _ all_module all_setting ∙ rank_rolled (last ok)

-- ---- the step

module _ (m k : ℕ) (M S : ℕ → ℕ) (ok : Valid (suc m) k M S) where
  pre : Valid m k (prefix_modules m M) (prefix_settings m k M S)
  pre = prefix_valid ok

  -- the digits below the last are the prefix's
  pub rest_of_prefix : (p : ℕ) → p ≤ m → rank m k (prefix_modules m M) (prefix_settings m k M S) % weight p k ≡ rank (suc m) k M S % weight p k
  rest_of_prefix p l = ap (λ x. x % weight p k) (sym (rank_rest ok)) ∙ rest_of_rest k (k_low ok) p m _ l

  -- they are all full where the prefix is the last arrangement
  pub full_prefix : Full m k (rank (suc m) k M S) → rank m k (prefix_modules m M) (prefix_settings m k M S) ≡ rank m k (last_modules m) (last_settings k)
  full_prefix t = omega (arith, t, rank_rest ok, rank_last m k (k_low ok))

  step_all : Full m k (rank (suc m) k M S) → rank (suc m) k (flipped_modules (suc m) M) (flipped_settings k (suc m) S) ≡ next_rank (suc m) k (rank (suc m) k M S)
  unfolding rank next_rank
  step_all t =
      rank_all ok (rank_once_module pre all (full_prefix t)) (rank_once_setting pre all (full_prefix t))
      ∙ sym (ap₂ (λ (x y : ℕ). x % y) next (weight_suc m k) ∙ mul_mod_mul _ _ _ (mul-pos (k_low ok) (omega arith)) (weight_pos m k (k_low ok)))
    where
      all : Valid m k (last_modules m) (last_settings k)
      all = valid_last m k (k_low ok)

      next : rank (suc m) k M S + 1 ≡ (last_digit_lem (suc m) (M m) (S m) + 1) * weight m k
      next = omega (arith, ap suc (sym (rank_rest ok)) ∙ t)

  step_part : (j : ℕ) → j ≤ m → suc (rank m k (prefix_modules m M) (prefix_settings m k M S)) < weight m k
      → rank m k (flipped_modules j (prefix_modules m M)) (flipped_settings k j (prefix_settings m k M S)) ≡ next_rank m k (rank m k (prefix_modules m M) (prefix_settings m k M S))
      → rank (suc m) k (flipped_modules j M) (flipped_settings k j S) ≡ next_rank (suc m) k (rank (suc m) k M S)
  unfolding rank next_rank
  step_part j l b ih =
      ap₂ (λ (x y : ℕ). x * weight m k + y)
      (ap₂ (last_digit_lem (suc m)) (module_behind j M m l) (setting_behind k j S m l))
      (rank_ext m k _ _ _ _ (λ i _. prefix_flip_module m k j M S l i) (λ i _. prefix_flip_setting m k j M S l i) ∙ ih ∙ mod-eq_of_lt (omega arith))
      ∙ omega arith
      ∙ sym (mod-eq_of_lt {n = last_digit_lem (suc m) (M m) (S m) * weight m k + rank m k (prefix_modules m M) (prefix_settings m k M S) + 1} (omega (arith, weight_suc m k, digits_lt (last_digit_lt (last ok)) b)))

  below_full : (p : ℕ) → p ≤ m → ¬ (Full p k (rank (suc m) k M S)) → suc (rank m k (prefix_modules m M) (prefix_settings m k M S)) < weight m k
  below_full p l s =
      let ne : suc (rank m k (prefix_modules m M) (prefix_settings m k M S)) ≢ weight m k
      = λ e. s (full_down k (k_low ok) p m _ l (ap suc (rank_rest ok) ∙ e)) in
      omega (arith, rank_lt m k _ _ pre)

pub step_full : (n k p : ℕ) (M S : ℕ → ℕ) → Valid n k M S → p < n → Full p k (rank n k M S) → (suc p < n → ¬ (Full (suc p) k (rank n k M S)))
    → rank n k (flipped_modules (suc p) M) (flipped_settings k (suc p) S) ≡ next_rank n k (rank n k M S)
step_full zero k p M S ok l = absurd (not-suc-le-zero l)
step_full (suc m) k p M S ok l = by_last (λ x. Full x k (rank (suc m) k M S) → (suc x < suc m → ¬ (Full (suc x) k (rank (suc m) k M S)))
    → rank (suc m) k (flipped_modules (suc x) M) (flipped_settings k (suc x) S) ≡ next_rank (suc m) k (rank (suc m) k M S)) l
    (λ a t s. step_part m k M S ok (suc p) a (below_full m k M S ok (suc p) a (s (omega arith)))
    (step_full m k p _ _ (prefix_valid ok) a (ap suc (rest_of_prefix m k M S ok p (omega arith)) ∙ t)
    (λ z u. s (omega arith) (ap suc (sym (rest_of_prefix m k M S ok (suc p) a)) ∙ u))))
    (λ t s. step_all m k M S ok t)

pub step_flip_lem : (n k j : ℕ) (M S : ℕ → ℕ) → Valid n k M S → 1 ≤ k → IsFlip n k (rank n k M S) j
    → rank n k (flipped_modules j M) (flipped_settings k j S) ≡ next_rank n k (rank n k M S)
step_flip_lem n k zero M S ok h f = absurd (omega (arith, f.one))
step_flip_lem n k (suc p) M S ok h f =
    step_full n k p M S ok f.most (full_of k h p _ f.full) (λ l t. omega (arith, f.stop l, full_digit k h p _ t))

pub step : (n k : ℕ) (M S : ℕ → ℕ) → Valid n k M S → 1 ≤ k → 1 ≤ n
    → rank n k (flipped_modules (flip_out n k (rank n k M S)) M) (flipped_settings k (flip_out n k (rank n k M S)) S) ≡ next_rank n k (rank n k M S)
step n k M S ok h l = step_flip_lem n k _ M S ok h (flip_out_lem n k _ h l)

-- ---- the arrangement of the next rank

module _ (n k q : ℕ) (k_low : 1 ≤ k) (n_low : 1 ≤ n) (q_low : q < weight n k) where
  flipped_rank : rank n k (flipped_modules (flip_out n k q) (unrank_modules n k q)) (flipped_settings k (flip_out n k q) (unrank_settings n k q)) ≡ next_rank n k q
  flipped_rank =
      let back = rank_unrank n k q k_low q_low in
      let made = step n k (unrank_modules n k q) (unrank_settings n k q) (unrank_valid n k q k_low q_low) k_low n_low in rw back at made

  pub flip_high : flip_out n k q ≤ n
  flip_high = (flip_out_lem n k q k_low n_low).most

  pub next_module : (i : ℕ) → i < n → flipped_modules (flip_out n k q) (unrank_modules n k q) i ≡ unrank_modules n k (next_rank n k q) i
  next_module i l =
      sym (unrank_rank_module n k _ _ (flipped_valid k_low flip_high (unrank_valid n k q k_low q_low)) i l) ∙ ap (λ x. unrank_modules n k x i) flipped_rank

  pub next_setting_lem : (i : ℕ) → i < n → flipped_settings k (flip_out n k q) (unrank_settings n k q) i ≡ unrank_settings n k (next_rank n k q) i
  next_setting_lem i l =
      sym (unrank_rank_setting n k _ _ (flipped_valid k_low flip_high (unrank_valid n k q k_low q_low)) i l) ∙ ap (λ x. unrank_settings n k x i) flipped_rank
