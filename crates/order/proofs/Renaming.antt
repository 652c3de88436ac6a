-- What renaming does to one cell, where v:c is in the last of n slots. Renamed modules are linear in the module, on each side
-- of v, so arithmetic shows that renaming and its undoing are inverses, and that renaming goes with raising a setting by one.
-- Assumes nothing.
use mathlib.Core.Path.{◌≡◌, ap, ◌∙◌}
use mathlib.Core.Logic.{◌≢◌}
use Prim.Native.Nat.{ℕ, suc, ◌+◌, ◌-◌, ◌%◌, ◌≤◌, ◌<◌}
use native.Mathlib.Nat.{mod-lt, mod-eq_of_lt, mod-add-mod, add-mod_right, mod_self}
use native.Mathlib.Numerals.{add-one}
use native.Mathlib.Omega.{arith}
use Rattle.rows.proofs.Cases.{by_lt, by_ne, if_lt_lem, if_ge}
use Rattle.arrangement.specs.Arrangement.{Cell}
use Rattle.flip.specs.Flip.{raised}
use Rattle.order.specs.Rank.{raised_by, lowered_by, renamed_module, renamed_setting, restored_module, restored_setting}

-- ---- settings, modulo k

module _ (k : ℕ) where
  pub lowered_raised : (s d : ℕ) → lowered_by k (raised k s) d ≡ raised k (lowered_by k s d)
  unfolding lowered_by raised
  lowered_raised s d = simp mod-add-mod (ap (λ x. x % k) (omega arith))

  pub lowered_once_more : (s d : ℕ) → suc d ≤ k → lowered_by k (raised k s) (suc d) ≡ lowered_by k s d
  unfolding lowered_by raised
  lowered_once_more s d h = simp mod-add-mod (ap (λ x. x % k) (omega arith))

  pub raised_lowered_more : (s d : ℕ) → suc d ≤ k → raised k (lowered_by k s (suc d)) ≡ lowered_by k s d
  unfolding lowered_by raised
  raised_lowered_more s d h = simp mod-add-mod (ap (λ x. x % k) (omega arith))

  round : {s : ℕ} → s < k → (s + k) % k ≡ s
  round h = add-mod_right _ _ ∙ mod-eq_of_lt h

  pub raised_lowered : (s d : ℕ) → s < k → d ≤ k → raised_by k (lowered_by k s d) d ≡ s
  unfolding lowered_by raised_by
  raised_lowered s d h l = simp mod-add-mod (ap (λ x. x % k) (omega arith) ∙ round h)

  pub lowered_back : (s d : ℕ) → s < k → d ≤ k → lowered_by k (raised_by k s d) d ≡ s
  unfolding lowered_by raised_by
  lowered_back s d h l = simp mod-add-mod (ap (λ x. x % k) (omega arith) ∙ round h)

  pub lowered_self : (c : ℕ) → c ≤ k → lowered_by k c c ≡ 0
  unfolding lowered_by
  lowered_self c l = ap (λ x. x % k) (omega arith) ∙ mod_self k

  pub lowered_lt : (s d : ℕ) → 1 ≤ k → lowered_by k s d < k
  unfolding lowered_by
  lowered_lt s d h = mod-lt _ h

  pub raised_by_lt : (s d : ℕ) → 1 ≤ k → raised_by k s d < k
  unfolding raised_by
  raised_by_lt s d h = mod-lt _ h

-- ---- the renaming of a module, in linear form

module _ (n v : ℕ) where
  pub renamed_above : (w : ℕ) → v < w → renamed_module n v w + v ≡ w
  unfolding renamed_module
  renamed_above w h = omega (arith, if_lt_lem (w - v) (n - v + w) h)

  pub renamed_below : (w : ℕ) → w < v → v ≤ n → renamed_module n v w + v ≡ n + w
  unfolding renamed_module
  renamed_below w h l = omega (arith, if_ge {a = v} {b = w} (w - v) (n - v + w) (omega arith))

  pub restored_below : (x : ℕ) → n < v + x → restored_module n v x + n ≡ v + x
  unfolding restored_module
  restored_below x h = omega (arith, if_lt_lem (v + x - n) (v + x) h)

  pub restored_above : (x : ℕ) → v + x ≤ n → restored_module n v x ≡ v + x
  unfolding restored_module
  restored_above x h = if_ge _ _ h

-- and of a setting
module _ (k v c : ℕ) where
  pub setting_above : (w s : ℕ) → v < w → renamed_setting k v c w s ≡ lowered_by k s (suc c)
  unfolding renamed_setting
  setting_above w s h = ap (lowered_by k s) (if_lt_lem _ _ h)

  pub setting_below : (w s : ℕ) → w ≤ v → renamed_setting k v c w s ≡ lowered_by k s c
  unfolding renamed_setting
  setting_below w s h = ap (lowered_by k s) (if_ge _ _ h)

  pub restored_setting_below : (n x s : ℕ) → n < v + x → restored_setting n k v c x s ≡ raised_by k s c
  unfolding restored_setting
  restored_setting_below n x s h = ap (raised_by k s) (if_lt_lem _ _ h)

  pub restored_setting_above : (n x s : ℕ) → v + x ≤ n → restored_setting n k v c x s ≡ raised_by k s (suc c)
  unfolding restored_setting
  restored_setting_above n x s h = ap (raised_by k s) (if_ge _ _ h)

pub renamed_setting_lt : (k v c w s : ℕ) → 1 ≤ k → renamed_setting k v c w s < k
unfolding renamed_setting
renamed_setting_lt k v c w s h = lowered_lt k s _ h

pub restored_setting_lt : (n k v c x s : ℕ) → 1 ≤ k → restored_setting n k v c x s < k
unfolding restored_setting
restored_setting_lt n k v c x s h = raised_by_lt k s _ h

-- ---- the renaming and its undoing, where the cell v:c is last

module _ {m k v c : ℕ} (L : Cell (suc m) k v c) where
  -- a cell w:s of another module
  module _ {w s : ℕ} (W : Cell (suc m) k w s) (vw : v ≢ w) where
    pub renamed_cell : Cell m k (renamed_module (suc m) v w) (renamed_setting k v c w s)
    renamed_cell =
        by_ne vw
        (λ l. omega (arith, renamed_above (suc m) v w l, renamed_setting_lt k v c w s (omega arith)))
        (λ l. omega (arith, renamed_below (suc m) v w l L.high, renamed_setting_lt k v c w s (omega arith)))

    pub restored_renamed_module : restored_module (suc m) v (renamed_module (suc m) v w) ≡ w
    restored_renamed_module =
        by_ne vw
        (λ l. let e = renamed_above (suc m) v w l in omega (arith, restored_above (suc m) v (renamed_module (suc m) v w) (omega arith)))
        (λ l. let e = renamed_below (suc m) v w l L.high in omega (arith, restored_below (suc m) v (renamed_module (suc m) v w) (omega arith)))

    pub restored_renamed_setting : restored_setting (suc m) k v c (renamed_module (suc m) v w) (renamed_setting k v c w s) ≡ s
    restored_renamed_setting =
        by_ne vw
        (λ l. let e = renamed_above (suc m) v w l in
        rw (restored_setting_above k v c (suc m) (renamed_module (suc m) v w) (renamed_setting k v c w s) (omega arith), setting_above k v c w s l) (raised_lowered k s (suc c) W.setting L.setting))
        (λ l. let e = renamed_below (suc m) v w l L.high in
        rw (restored_setting_below k v c (suc m) (renamed_module (suc m) v w) (renamed_setting k v c w s) (omega arith), setting_below k v c w s (omega arith)) (raised_lowered k s c W.setting (omega arith)))

  -- a cell x:s of the prefix
  module _ {x s : ℕ} (X : Cell m k x s) where
    pub restored_cell : Cell (suc m) k (restored_module (suc m) v x) (restored_setting (suc m) k v c x s)
    restored_cell =
        by_lt (suc m) (v + x)
        (λ l. omega (arith, restored_below (suc m) v x l, restored_setting_lt (suc m) k v c x s (omega arith)))
        (λ l. omega (arith, restored_above (suc m) v x l, restored_setting_lt (suc m) k v c x s (omega arith)))

    pub restored_other : v ≢ restored_module (suc m) v x
    restored_other = by_lt (suc m) (v + x) (λ l. omega (arith, restored_below (suc m) v x l)) (λ l. omega (arith, restored_above (suc m) v x l))

    pub renamed_restored_module : renamed_module (suc m) v (restored_module (suc m) v x) ≡ x
    renamed_restored_module =
        by_lt (suc m) (v + x)
        (λ l. let e = restored_below (suc m) v x l in omega (arith, renamed_below (suc m) v (restored_module (suc m) v x) (omega arith) L.high))
        (λ l. let e = restored_above (suc m) v x l in omega (arith, renamed_above (suc m) v (restored_module (suc m) v x) (omega arith)))

    pub renamed_restored_setting : renamed_setting k v c (restored_module (suc m) v x) (restored_setting (suc m) k v c x s) ≡ s
    renamed_restored_setting =
        by_lt (suc m) (v + x)
        (λ l. let e = restored_below (suc m) v x l in
        setting_below k v c _ _ (omega arith) ∙ rw (restored_setting_below k v c (suc m) x s l) (lowered_back k s c X.setting (omega arith)))
        (λ l. let e = restored_above (suc m) v x l in
        setting_above k v c _ _ (omega arith) ∙ rw (restored_setting_above k v c (suc m) x s l) (lowered_back k s (suc c) X.setting L.setting))

-- ---- settings as the code moves them

module _ (k s d : ℕ) where
  pub lowered_wraps : s < d → d ≤ k → lowered_by k s d ≡ s + k - d
  unfolding lowered_by
  lowered_wraps h l = let e : s + (k - d) ≡ s + k - d = omega arith in rw e (mod-eq_of_lt (omega arith))

  pub lowered_stays : d ≤ s → s < k → lowered_by k s d ≡ s - d
  unfolding lowered_by
  lowered_stays h l =
      let e : s + (k - d) ≡ s - d + k = omega arith in rw e (add-mod_right (s - d) k ∙ mod-eq_of_lt (omega arith))

  pub raised_stays : s + d < k → raised_by k s d ≡ s + d
  unfolding raised_by
  raised_stays h = mod-eq_of_lt h

  pub raised_wraps : k ≤ s + d → s < k → d ≤ k → raised_by k s d ≡ s + d - k
  unfolding raised_by
  raised_wraps h l m =
      let e : s + d ≡ s + d - k + k = omega arith in
      ap (λ x. x % k) e ∙ add-mod_right (s + d - k) k ∙ mod-eq_of_lt (omega arith)

-- ---- cells as the code renames and restores them, where they stand: w:s is what stood in slot i

module _ (m k : ℕ) (M S : ℕ → ℕ) (i : ℕ) {r w : ℕ} (w_is : w ≡ M i) where
  pub module_renamed : r ≡ renamed_module (m + 1) (M m) w → r ≡ renamed_module (suc m) (M m) (M i)
  module_renamed r_is = r_is ∙ cc (add-one m)

  pub setting_renamed : {s : ℕ} → s ≡ S i → r ≡ renamed_setting k (M m) (S m) w s → r ≡ renamed_setting k (M m) (S m) (M i) (S i)
  setting_renamed s_is r_is = cc

  pub module_restored : (v : ℕ) → r ≡ restored_module (m + 1) v w → r ≡ restored_module (suc m) v (M i)
  module_restored v r_is = r_is ∙ cc (add-one m)

  pub setting_restored : {s : ℕ} (v c : ℕ) → s ≡ S i → r ≡ restored_setting (m + 1) k v c w s → r ≡ restored_setting (suc m) k v c (M i) (S i)
  setting_restored v c s_is r_is = r_is ∙ cc (add-one m)
