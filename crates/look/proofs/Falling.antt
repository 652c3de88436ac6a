-- The slots that fall, and the digits that are full. Renaming turns all modules alike, so the slots before the last fall exactly
-- where they do so renamed; and all slots fall exactly where the renamed prefix is the last arrangement. So by induction the
-- first p + 1 slots fall where the digits 1 to p of the rank are full. Assumes nothing.
use mathlib.Core.Path.{◌≡◌, sym, ap, ◌∙◌}
use mathlib.Core.Logic.{◌≢◌, ◌↔◌}
use Prim.Native.Nat.{ℕ, zero, suc, ◌+◌, ◌-◌, ◌%◌, ◌≤◌, ◌<◌}
use native.Mathlib.Nat.{mod-eq_of_lt, not-suc-le-zero, le_refl, add-mod-mod, add-mod_right}
use native.Mathlib.Decide.{le_ind}
use native.Mathlib.Omega.{arith}
use lib.Arith.{le-zero}
use Rattle.rows.proofs.Cases.{by_lt, by_ne, by_last, if_lt_lem, if_ge}
use Rattle.arrangement.specs.Arrangement.{Cell, Valid}
use Rattle.flip.specs.Flip.{raised}
use Rattle.flip.proofs.Flips.{raised_lt}
use Rattle.order.specs.Rank.{raised_by, lowered_by, renamed_module, renamed_setting, restored_setting, prefix_modules, prefix_settings, rank, last_modules, last_settings}
use Rattle.order.proofs.Renaming.{lowered_raised, lowered_once_more, raised_lowered_more, lowered_back, raised_lowered, renamed_above, renamed_below, setting_above, setting_below, restored_renamed_setting}
use Rattle.order.proofs.Ranks.{rank_ext, rank_rest, prefix_valid, last, cell, k_low, not_last, rank_once_module, rank_once_setting}
use Rattle.order.proofs.Digits.{Full}
use Rattle.order.proofs.Steps.{rest_of_prefix, full_prefix, rank_last, valid_last, raised_to}
use Rattle.look.specs.Look.{offset, expected_setting}

-- the first j slots are falling
pub record Falls (n k j : ℕ) (M S : ℕ → ℕ) : Type 0 where
  pub expected : (i : ℕ) → i < j → S i ≡ expected_setting k (M 0) (S 0) (M i)
  pub up : (i : ℕ) → suc i < j → offset n (M 0) (M i) < offset n (M 0) (M (suc i))

pub offset_above : (n a w : ℕ) → a < w → w ≤ n → offset n a w + w ≡ n + a
unfolding offset
offset_above n a w l h = omega (arith, if_lt_lem (n + a - w) (a - w) l)

pub offset_below : (n a w : ℕ) → w ≤ a → offset n a w + w ≡ a
unfolding offset
offset_below n a w l = omega (arith, if_ge (n + a - w) (a - w) l)

expected_above : (k a s w : ℕ) → a < w → expected_setting k a s w ≡ raised k s
unfolding expected_setting
expected_above k a s w l = if_lt_lem _ _ l

pub expected_below : (k a s w : ℕ) → w ≤ a → expected_setting k a s w ≡ s
unfolding expected_setting
expected_below k a s w l = if_ge _ _ l

-- ---- the renaming, seen from the front cell a:s: it turns all modules alike

module _ {m k v c a s w t : ℕ} (L : Cell (suc m) k v c) (A : Cell (suc m) k a s) (W : Cell (suc m) k w t) (va : v ≢ a) (vw : v ≢ w) where
  offset_renamed : offset (suc m) a w ≡ offset (suc m) (renamed_module (suc m) v a) (renamed_module (suc m) v w)
  offset_renamed = let a' = renamed_module (suc m) v a in let w' = renamed_module (suc m) v w in by_ne va
      (λ x. let p = renamed_above (suc m) v a x in by_ne vw
      (λ y. let q = renamed_above (suc m) v w y in by_lt a w
      (λ z. omega (arith, offset_above (suc m) a w z W.high, offset_above (suc m) a' w' (omega arith) (omega arith)))
      (λ z. omega (arith, offset_below (suc m) a w z, offset_below (suc m) a' w' (omega arith))))
      (λ y. let q = renamed_below (suc m) v w y L.high in
      omega (arith, offset_below (suc m) a w (omega arith), offset_above (suc m) a' w' (omega arith) (omega arith))))
      (λ x. let p = renamed_below (suc m) v a x L.high in by_ne vw
      (λ y. let q = renamed_above (suc m) v w y in
      omega (arith, offset_above (suc m) a w (omega arith) W.high, offset_below (suc m) a' w' (omega arith)))
      (λ y. let q = renamed_below (suc m) v w y L.high in by_lt a w
      (λ z. omega (arith, offset_above (suc m) a w z W.high, offset_above (suc m) a' w' (omega arith) (omega arith)))
      (λ z. omega (arith, offset_below (suc m) a w z, offset_below (suc m) a' w' (omega arith)))))

  expected_renamed : renamed_setting k v c w (expected_setting k a s w) ≡ expected_setting k (renamed_module (suc m) v a) (renamed_setting k v c a s) (renamed_module (suc m) v w)
  expected_renamed = let a' = renamed_module (suc m) v a in let w' = renamed_module (suc m) v w in let s' = renamed_setting k v c a s in by_ne va
      (λ x. let p = renamed_above (suc m) v a x in by_ne vw
      (λ y. let q = renamed_above (suc m) v w y in by_lt a w
      (λ z. rw (expected_above k a s w z, expected_above k a' s' w' (omega arith), setting_above k v c w (raised k s) y, setting_above k v c a s x) (lowered_raised k s (suc c)))
      (λ z. rw (expected_below k a s w z, expected_below k a' s' w' (omega arith), setting_above k v c w s y, setting_above k v c a s x)))
      (λ y. let q = renamed_below (suc m) v w y L.high in
      rw (expected_below k a s w (omega arith), expected_above k a' s' w' (omega arith), setting_below k v c w s (omega arith), setting_above k v c a s x) (sym (raised_lowered_more k s c L.setting))))
      (λ x. let p = renamed_below (suc m) v a x L.high in by_ne vw
      (λ y. let q = renamed_above (suc m) v w y in
      rw (expected_above k a s w (omega arith), expected_below k a' s' w' (omega arith), setting_above k v c w (raised k s) y, setting_below k v c a s (omega arith)) (lowered_once_more k s c L.setting))
      (λ y. let q = renamed_below (suc m) v w y L.high in by_lt a w
      (λ z. rw (expected_above k a s w z, expected_above k a' s' w' (omega arith), setting_below k v c w (raised k s) (omega arith), setting_below k v c a s (omega arith)) (lowered_raised k s c))
      (λ z. rw (expected_below k a s w z, expected_below k a' s' w' (omega arith), setting_below k v c w s (omega arith), setting_below k v c a s (omega arith)))))

  expected_cell : Cell (suc m) k w (expected_setting k a s w)
  expected_cell = by_lt a w (λ l. rw (expected_above k a s w l) (omega (arith, raised_lt k s (omega arith)))) (λ l. rw (expected_below k a s w l) (omega arith))

  -- the cell w:t has the setting expected of it before the renaming where it has so after it
  expected_iff : (t ≡ expected_setting k a s w) ↔ (renamed_setting k v c w t ≡ expected_setting k (renamed_module (suc m) v a) (renamed_setting k v c a s) (renamed_module (suc m) v w))
  expected_iff = (
    λ e. ap (renamed_setting k v c w) e ∙ expected_renamed,
    λ e. sym (restored_renamed_setting L W vw) ∙ ap (restored_setting (suc m) k v c (renamed_module (suc m) v w)) (e ∙ sym expected_renamed) ∙ restored_renamed_setting L expected_cell vw,
  )

-- a slot less keeps the order of the offsets
offset_fewer : {m k a s w t u y : ℕ} → Cell m k a s → Cell m k w t → Cell m k u y → (offset (suc m) a w < offset (suc m) a u) ↔ (offset m a w < offset m a u)
offset_fewer {m} {k} {a} {s} {w} {t} {u} {y} A W U = by_lt a w
    (λ x. let p = offset_above (suc m) a w x (omega arith) in let q = offset_above m a w x W.high in by_lt a u
    (λ z. omega (arith, offset_above (suc m) a u z (omega arith), offset_above m a u z U.high))
    (λ z. omega (arith, offset_below (suc m) a u z, offset_below m a u z)))
    (λ x. let p = offset_below (suc m) a w x in let q = offset_below m a w x in by_lt a u
    (λ z. omega (arith, offset_above (suc m) a u z (omega arith), offset_above m a u z U.high))
    (λ z. omega (arith, offset_below (suc m) a u z, offset_below m a u z)))

-- ---- the front cell a:s and the last v:c, where all is falling

module _ (k s : ℕ) (hs : s < k) where
  lowered_full : (d : ℕ) → d ≤ k → (s ≡ raised_by k (k - 1) d) ↔ (lowered_by k s d ≡ k - 1)
  lowered_full d h = (
    λ e. ap (λ x. lowered_by k x d) e ∙ lowered_back k (k - 1) d (omega arith) h,
    λ e. sym (raised_lowered k s d hs h) ∙ ap (λ x. raised_by k x d) e,
  )

  raised_from_full : (c : ℕ) → c < k → raised_by k (k - 1) (suc c) ≡ c
  unfolding raised_by
  raised_from_full c h = ap (λ x. x % k) (omega arith) ∙ add-mod_right c k ∙ mod-eq_of_lt h

  raised_once_more : raised_by k (k - 1) (raised k s) ≡ s
  unfolding raised_by raised
  raised_once_more = add-mod-mod _ _ _ ∙ ap (λ x. x % k) (omega arith) ∙ add-mod_right s k ∙ mod-eq_of_lt hs

module _ {m k v c a s : ℕ} (L : Cell (suc m) k v c) (A : Cell (suc m) k a s) where
  offset_most : offset (suc m) a v ≤ m
  offset_most = by_lt a v (λ x. omega (arith, offset_above (suc m) a v x L.high)) (λ x. omega (arith, offset_below (suc m) a v x))

  last_offset : v ≢ a → (offset (suc m) a v ≡ m) ↔ (renamed_module (suc m) v a ≡ m)
  last_offset va = by_ne va
      (λ x. omega (arith, offset_below (suc m) a v (omega arith), renamed_above (suc m) v a x))
      (λ x. omega (arith, offset_above (suc m) a v x L.high, renamed_below (suc m) v a x L.high))

  last_setting : v ≢ a → (c ≡ expected_setting k a s v) ↔ (renamed_setting k v c a s ≡ k - 1)
  last_setting va = let full = lowered_full k s A.setting in let up = raised_from_full k s A.setting c L.setting in by_ne va
      (λ x. rw (expected_below k a s v (omega arith), setting_above k v c a s x)
      (λ e. (full (suc c) L.setting).0 (sym (up ∙ e)), λ e. sym ((full (suc c) L.setting).1 e ∙ up)))
      (λ x. rw (expected_above k a s v x, setting_below k v c a s (omega arith)) (
        λ e. (full c (omega arith)).0 (sym (ap (raised_by k (k - 1)) e ∙ raised_once_more k s A.setting)),
        λ e. sym (ap (raised k) ((full c (omega arith)).1 e) ∙ raised_to k c L.setting),
      ))

-- ---- a prefix that leaves the last slot out

module _ {m k : ℕ} {M S : ℕ → ℕ} (ok : Valid (suc m) k M S) where
  pre : (i : ℕ) → i < m → Cell m k (prefix_modules m M i) (prefix_settings m k M S i)
  pre = (prefix_valid ok).cell

  -- the front cell, where there is a slot before the last
  front : {i : ℕ} → i < m → 0 < m
  front h = omega arith

  offset_at : (i : ℕ) → i < m → offset (suc m) (M 0) (M i) ≡ offset (suc m) (prefix_modules m M 0) (prefix_modules m M i)
  offset_at i h = offset_renamed (last ok) (cell ok (front h)) (cell ok h) (not_last ok (front h)) (not_last ok h)

  setting_at : (i : ℕ) → i < m → (S i ≡ expected_setting k (M 0) (S 0) (M i)) ↔ (prefix_settings m k M S i ≡ expected_setting k (prefix_modules m M 0) (prefix_settings m k M S 0) (prefix_modules m M i))
  setting_at i h = expected_iff (last ok) (cell ok (front h)) (cell ok h) (not_last ok (front h)) (not_last ok h)

  up_at : (i : ℕ) → suc i < m → (offset (suc m) (M 0) (M i) < offset (suc m) (M 0) (M (suc i))) ↔ (offset m (prefix_modules m M 0) (prefix_modules m M i) < offset m (prefix_modules m M 0) (prefix_modules m M (suc i)))
  up_at i h = rw (offset_at i (omega arith), offset_at (suc i) h) (offset_fewer (pre 0 (omega arith)) (pre i (omega arith)) (pre (suc i) h))

  falls_prefix : (j : ℕ) → j ≤ m → Falls (suc m) k j M S ↔ Falls m k j (prefix_modules m M) (prefix_settings m k M S)
  falls_prefix j l = (
    λ f. record { expected = λ i h. (setting_at i (omega arith)).0 (f.expected i h); up = λ i h. (up_at i (omega arith)).0 (f.up i h) },
    λ f. record { expected = λ i h. (setting_at i (omega arith)).1 (f.expected i h); up = λ i h. (up_at i (omega arith)).1 (f.up i h) },
  )

-- ---- all slots: falling where the renamed prefix is the last arrangement

abbrev IsLast : ℕ → ℕ → (ℕ → ℕ) → (ℕ → ℕ) → Type 0
IsLast m k M S = (i : ℕ) → i < m → (prefix_modules m M i ≡ last_modules m i) × (prefix_settings m k M S i ≡ last_settings k i)

module _ {m k : ℕ} {M S : ℕ → ℕ} (ok : Valid (suc m) k M S) (f : Falls (suc m) k (suc m) M S) where
  offset_climbs : (i j : ℕ) → i ≤ j → j < suc m → offset (suc m) (M 0) (M i) + (j - i) ≤ offset (suc m) (M 0) (M j)
  offset_climbs i j l =
      le_ind (λ x. x < suc m → offset (suc m) (M 0) (M i) + (x - i) ≤ offset (suc m) (M 0) (M x))
      (λ h. omega arith) (λ x a p h. omega (arith, p (omega arith), f.up x h)) j l

  offset_is : (i : ℕ) → i < suc m → offset (suc m) (M 0) (M i) ≡ i
  offset_is i h =
      omega (
        arith,
        offset_below (suc m) (M 0) (M 0) (le_refl _),
        offset_climbs 0 i (omega arith) h,
        offset_climbs i m (omega arith) (le_refl _),
        offset_most (last ok) (ok.cell 0 (omega arith)),
      )

  falls_last : IsLast m k M S
  unfolding last_modules last_settings
  falls_last i h =
      let a = (last_offset (last ok) (cell ok (front ok h)) (not_last ok (front ok h))).0 (offset_is m (le_refl _)) in
      let s = (last_setting (last ok) (cell ok (front ok h)) (not_last ok (front ok h))).0 (f.expected m (le_refl _)) in
      let b = (pre ok i h).high in (
        omega (arith, offset_at ok i h, offset_is i (omega arith), offset_below (suc m) (prefix_modules m M 0) (prefix_modules m M i) (omega arith)),
        (setting_at ok i h).0 (f.expected i (omega arith)) ∙ expected_below k _ _ _ (omega arith) ∙ s,
      )

module _ {m k : ℕ} {M S : ℕ → ℕ} (ok : Valid (suc m) k M S) (g : IsLast m k M S) where
  offset_back : (i : ℕ) → i < suc m → offset (suc m) (M 0) (M i) ≡ i
  unfolding last_modules last_settings
  offset_back i h = by_last (λ x. offset (suc m) (M 0) (M x) ≡ x) h
      (λ l. let a = (g 0 (omega arith)).0 in let b = (g i l).0 in
      omega (arith, offset_at ok i l, offset_below (suc m) (prefix_modules m M 0) (prefix_modules m M i) (omega arith)))
      (by_lt 0 m
      (λ l. (last_offset (last ok) (cell ok l) (not_last ok l)).1 ((g 0 l).0 ∙ omega arith))
      (λ l. rw (le-zero l) (omega (arith, offset_below 1 (M 0) (M 0) (le_refl _)))))

  expected_back : (i : ℕ) → i < suc m → S i ≡ expected_setting k (M 0) (S 0) (M i)
  unfolding last_modules last_settings
  expected_back i h = by_last (λ x. S x ≡ expected_setting k (M 0) (S 0) (M x)) h
      (λ l. let a = (g 0 (omega arith)).0 in let b = (g i l).0 in
      (setting_at ok i l).1 ((g i l).1 ∙ sym (g 0 (omega arith)).1 ∙ sym (expected_below k _ _ _ (omega arith))))
      (by_lt 0 m
      (λ l. (last_setting (last ok) (cell ok l) (not_last ok l)).1 (g 0 l).1)
      (λ l. rw (le-zero l) (sym (expected_below k _ _ _ (le_refl _)))))

  last_falls : Falls (suc m) k (suc m) M S
  last_falls = record { expected = expected_back; up = λ i h. omega (arith, offset_back i (omega arith), offset_back (suc i) h) }

full_last : (m k : ℕ) (M S : ℕ → ℕ) → Valid (suc m) k M S → Full m k (rank (suc m) k M S) ↔ IsLast m k M S
full_last m k M S ok = (
  λ t i h. (rank_once_module (prefix_valid ok) all (full_prefix m k M S ok t) i h, rank_once_setting (prefix_valid ok) all (full_prefix m k M S ok t) i h),
  λ g. ap suc (rank_rest ok ∙ rank_ext m k _ _ _ _ (λ i h. (g i h).0) (λ i h. (g i h).1)) ∙ rank_last m k (k_low ok),
)
  where
    all : Valid m k (last_modules m) (last_settings k)
    all = valid_last m k (k_low ok)

-- the prefix of suc p slots is falling where the digits 1..p are full
pub falls_full : (n k p : ℕ) (M S : ℕ → ℕ) → Valid n k M S → p < n → Falls n k (suc p) M S ↔ Full p k (rank n k M S)
falls_full zero k p M S ok l = absurd (not-suc-le-zero l)
falls_full (suc m) k p M S ok l = by_last (λ x. Falls (suc m) k (suc x) M S ↔ Full x k (rank (suc m) k M S)) l
    (λ a. let ih = falls_full m k p _ _ (prefix_valid ok) a in let e = rest_of_prefix m k M S ok p (omega arith) in
    (λ f. ap suc (sym e) ∙ ih.0 ((falls_prefix ok (suc p) a).0 f), λ t. (falls_prefix ok (suc p) a).1 (ih.1 (ap suc e ∙ t))))
    (λ f. (full_last m k M S ok).1 (falls_last ok f), λ t. last_falls ok ((full_last m k M S ok).0 t))
