-- One call of rank and of unrank on one slot fewer. n slots are suc m of them, with m = n - 1, so each law is a step of the
-- definition; and what stands behind the slots stays within the bounds that let every place be renamed. Assumes nothing.
use mathlib.Core.Path.{◌≡◌, refl, sym, ap, ap₂, ◌∙◌, subst}
use mathlib.Core.List.{List}
use Prim.Native.Nat.{ℕ, suc, ◌+◌, ◌-◌, ◌*◌, ◌/◌, ◌%◌, ◌≤◌, ◌<◌}
use native.Mathlib.Nat.{mod-lt, div-one, mod-eq_of_lt, div-div-eq-div-mul, mul_comm, le_trans}
use native.Mathlib.Omega.{arith}
use lib.ListN.{length, set, get_or-replicate}
use lib.Arith.{digits_lt, digits_div}
use Rattle.rows.specs.Row.{at, row, front}
use Rattle.rows.proofs.Cases.{by_lt, by_eq, by_last, if_lt_lem, if_ge}
use Rattle.rows.proofs.Rows.{length_row, at_row, row_ext, read, unread, rewritten, same_length, Placed, placed}
use Rattle.sizes.specs.Sizes.{weight, Permitted, most_slots}
use Rattle.sizes.proofs.Weights.{weight_zero, weight_suc, weight_pos, weight_mono}
use Rattle.arrangement.specs.Arrangement.{Cell, Valid}
use Rattle.rows.specs.Copy.{wide, blank}
use Rattle.arrangement.proofs.Validity.{Accepted, valid_ext}
use Rattle.order.specs.Rank.{last_digit_lem, module_of, setting_of, prefix_modules, prefix_settings, rank, renamed_module, restored_module, restored_setting, unrank_modules, unrank_settings}
use Rattle.order.specs.Digits.{digit}
use Rattle.order.specs.Asked.{Bounded, RenameAsked, PutAsked, RankAsked, RestoreAsked, UnrankAsked, Unranked}
use Rattle.order.proofs.Renaming.{renamed_setting_lt, restored_above, restored_below, restored_setting_lt}
use Rattle.order.proofs.Ranks.{rank_ext, rank_lt, prefix_valid, last_digit_lt, cell_of_digit, unrank_module_front, unrank_module_last, unrank_setting_front, unrank_setting_last}
use Rattle.order.proofs.Digits.{digit_lt, rest_one_more, rest_of_rest}

-- ---- sizes

weight_one : (k : ℕ) → weight 1 k ≡ k
weight_one k = rw (weight_suc, weight_zero) (omega arith)

-- n slots are one more than n - 1
pub one_fewer : {n : ℕ} → 1 ≤ n → suc (n - 1) ≡ n
one_fewer h = omega arith

-- one slot fewer is permitted too
permitted_fewer : {n k : ℕ} → Permitted n k → (n ≡ 1 → ⊥) → Permitted (n - 1) k
permitted_fewer {n} {k} p ne = record {
  n_low = omega arith;
  n_high = omega arith;
  k_low = p.k_low;
  k_high = p.k_high;
  few = le_trans (weight_mono (n - 1) n k p.k_low (omega arith)) p.few;
}

-- k times n times the weight of n - 1 places is that of n
weight_n : (n k : ℕ) {w : ℕ} → 1 ≤ n → w ≡ weight (n - 1) k → k * n * w ≡ weight n k
weight_n n k h w_is =
    ap₂ (λ (a b : ℕ). k * a * b) (sym (one_fewer h)) w_is ∙ sym (weight_suc (n - 1) k) ∙ ap (λ a. weight a k) (one_fewer h)

-- ---- rank

-- the last digit put above the rank of the other slots: the products fit
module _ {n k v c r w : ℕ} (asked : PutAsked n k v c r w) where
  pub put_weight : k * n * w ≡ weight n k
  put_weight = weight_n n k asked.sizes.n_low asked.weight_is

  pub put_lt : last_digit_lem n v c * w + r < weight n k
  put_lt = rw (← put_weight) (digits_lt (last_digit_lt asked.cell) (rw asked.weight_is asked.rank))

-- of one slot the rank is its setting
pub rank_one : {n k : ℕ} {M S : ℕ → ℕ} → n ≡ 1 → Valid n k M S → (S (n - 1) ≡ rank n k M S) × (k ≡ weight n k)
unfolding rank last_digit_lem
rank_one {n} {k} {M} {S} e v =
    let in_front = v.cell 0 (omega arith) in
    let zero_is : n - 1 ≡ 0 = omega arith in
    (rw (zero_is, e, weight_zero) (omega arith), rw e (sym (weight_one k)))

-- the last of n slots can be renamed by
pub rename_asked : {n k : ℕ} {ms ss : List ℕ} → RankAsked n k ms ss → RenameAsked (n - 1) k ms ss
rename_asked {n} asked =
    let sizes = asked.sizes in
    let in_last = asked.valid.cell (n - 1) (omega (arith, sizes)) in
    record { m_high = omega (arith, sizes); k_high = sizes.k_high; last = omega (arith, sizes); bounded = asked.bounded }

-- a renamed module is at most 20 where the module was
renamed_low : (n v w : ℕ) → n ≤ most_slots → v ≤ n → w ≤ most_slots → renamed_module n v w ≤ most_slots
unfolding renamed_module
renamed_low n v w n_high v_high w_high =
    by_lt v w (λ h. omega (arith, if_lt_lem (w - v) (n - v + w) h)) (λ h. omega (arith, if_ge {a = v} {b = w} (w - v) (n - v + w) h))

-- more slots than one: ms' and ss' are the rows renamed
module _ {n k : ℕ} {ms ss ms' ss' : List ℕ} (asked : RankAsked n k ms ss) (ne : n ≡ 1 → ⊥)
    (ms'_is : ms' ≡ row (prefix_modules (n - 1) (at ms)) wide)
    (ss'_is : ss' ≡ row (prefix_settings (n - 1) k (at ms) (at ss)) wide) where
  module_is : (i : ℕ) → i < wide → prefix_modules (n - 1) (at ms) i ≡ at ms' i
  module_is i h = sym (ap (λ xs. at xs i) ms'_is ∙ at_row _ wide i h)

  setting_is : (i : ℕ) → i < wide → prefix_settings (n - 1) k (at ms) (at ss) i ≡ at ss' i
  setting_is i h = sym (ap (λ xs. at xs i) ss'_is ∙ at_row _ wide i h)

  same_modules : (i : ℕ) → i < n - 1 → prefix_modules (n - 1) (at ms) i ≡ at ms' i
  same_modules i h = module_is i (omega (arith, asked.sizes))

  same_settings : (i : ℕ) → i < n - 1 → prefix_settings (n - 1) k (at ms) (at ss) i ≡ at ss' i
  same_settings i h = setting_is i (omega (arith, asked.sizes))

  before_bounded : Bounded k ms' ss'
  before_bounded =
      let last = rename_asked asked in
      record {
        modules_wide = ap length ms'_is ∙ length_row _ wide;
        settings_wide = ap length ss'_is ∙ length_row _ wide;
        modules_low = λ i h. rw (← module_is i h) (renamed_low (suc (n - 1)) (at ms (n - 1)) (at ms i) last.m_high last.last (asked.bounded.modules_low i h));
        settings_low = λ i h. rw (← setting_is i h) (renamed_setting_lt k (at ms (n - 1)) (at ss (n - 1)) (at ms i) (at ss i) asked.sizes.k_low);
      }

  before_valid : Valid (n - 1) k (prefix_modules (n - 1) (at ms)) (prefix_settings (n - 1) k (at ms) (at ss))
  before_valid =
      let whole : Valid (suc (n - 1)) k (at ms) (at ss) = rw (one_fewer asked.sizes.n_low) asked.valid in prefix_valid whole

  pub before_asked : RankAsked (n - 1) k ms' ss'
  before_asked = record {
    sizes = permitted_fewer asked.sizes ne;
    valid = valid_ext same_modules same_settings before_valid;
    bounded = before_bounded;
  }

  module _ {r w : ℕ} (r_is : r ≡ rank (n - 1) k (at ms') (at ss')) (w_is : w ≡ weight (n - 1) k) where
    pub put_asked : PutAsked n k (at ms (n - 1)) (at ss (n - 1)) r w
    put_asked = record {
      sizes = asked.sizes;
      cell = asked.valid.cell (n - 1) (omega (arith, asked.sizes));
      rank = rw r_is (rank_lt (n - 1) k (at ms') (at ss') before_asked.valid);
      weight_is = w_is;
    }

    pub rank_put : {x : ℕ} → x ≡ last_digit_lem n (at ms (n - 1)) (at ss (n - 1)) * w + r → x ≡ rank n k (at ms) (at ss)
    unfolding rank
    rank_put x_is =
        let whole = one_fewer asked.sizes.n_low in
        let rest = r_is ∙ sym (rank_ext (n - 1) k _ _ _ _ same_modules same_settings) in
        x_is ∙ ap₂ (λ (a b : ℕ). last_digit_lem n (at ms (n - 1)) (at ss (n - 1)) * a + b) w_is rest ∙
        ap (λ a. last_digit_lem a (at ms (n - 1)) (at ss (n - 1)) * weight (n - 1) k + rank (n - 1) k (prefix_modules (n - 1) (at ms)) (prefix_settings (n - 1) k (at ms) (at ss))) (sym whole) ∙
        ap (λ a. rank a k (at ms) (at ss)) whole

-- a lent arrangement, loaded
pub loaded : {n k : ℕ} {ms ss ms' ss' : List ℕ} → Accepted n k ms ss → ms' ≡ front (at ms) (length ms) blank → ss' ≡ front (at ss) (length ss) blank →
    RankAsked n k ms' ss' × (rank n k (at ms') (at ss') ≡ rank n k (at ms) (at ss))
loaded {n} {k} {ms} {ss} {ms'} {ss'} lent ms'_is ss'_is = (
  record {
    sizes = p;
    valid = valid_ext same_m same_s lent.valid_is;
    bounded = record {
      modules_wide = same_length (at ms) (length ms) blank ms'_is (omega (arith, p, lent.modules));
      settings_wide = same_length (at ss) (length ss) blank ss'_is (omega (arith, p, lent.settings));
      modules_low = λ i h. by_lt i n (λ l. omega (arith, same_m i l, lent.valid_is.cell i l, p)) (λ l. omega (arith, behind_m i l h));
      settings_low = λ i h. by_lt i n (λ l. omega (arith, same_s i l, lent.valid_is.cell i l)) (λ l. omega (arith, behind_s i l h, p));
    };
  },
  sym (rank_ext n k (at ms) (at ss) (at ms') (at ss') same_m same_s),
)
  where
    p : Permitted n k
    p = lent.sizes

    same_m : (i : ℕ) → i < n → at ms i ≡ at ms' i
    same_m i h = sym (read (at ms) (length ms) blank i ms'_is (omega (arith, lent.modules)))

    same_s : (i : ℕ) → i < n → at ss i ≡ at ss' i
    same_s i h = sym (read (at ss) (length ss) blank i ss'_is (omega (arith, lent.settings)))

    behind_m : (i : ℕ) → n ≤ i → i < wide → at ms' i ≡ 0
    behind_m i l h = unread (at ms) (length ms) blank i ms'_is (omega (arith, lent.modules)) ∙ get_or-replicate wide i 0 0 h

    behind_s : (i : ℕ) → n ≤ i → i < wide → at ss' i ≡ 0
    behind_s i l h = unread (at ss) (length ss) blank i ss'_is (omega (arith, lent.settings)) ∙ get_or-replicate wide i 0 0 h

-- ---- unrank

-- no digits at all
pub none_unranked : {n k r : ℕ} {ms ss : List ℕ} → n ≡ 0 → Bounded k ms ss → (r ≡ r / weight n k) × Unranked n k r ms ss
none_unranked {n} {k} {r} e bounded = (
  rw (e, weight_zero) (sym (div-one r)),
  record { modules = λ i h. absurd (omega arith); settings = λ i h. absurd (omega arith); bounded = bounded },
)

-- a restored module is at most 20 where the module was
restored_low : (n v x : ℕ) → n ≤ most_slots → v ≤ n → x ≤ most_slots → restored_module n v x ≤ most_slots
restored_low n v x n_high v_high x_high =
    by_lt n (v + x) (λ h. omega (arith, restored_below n v x h)) (λ h. omega (arith, restored_above n v x h))

-- one digit more: v:c is its cell, ms and ss hold the arrangement of the digits below it, and ms' and ss' are the rows restored
module _ (m k r : ℕ) {v c : ℕ} {ms ss ms' ss' : List ℕ} (asked : RestoreAsked m k v c ms ss)
    (v_is : v ≡ module_of (suc m) (digit k r (suc m))) (c_is : c ≡ setting_of (suc m) (digit k r (suc m))) (below : Unranked m k r ms ss)
    (ms'_is : ms' ≡ set (row (λ i. restored_module (suc m) v (at ms i)) wide) m v)
    (ss'_is : ss' ≡ set (row (λ i. restored_setting (suc m) k v c (at ms i) (at ss i)) wide) m c) where
  k_pos : 1 ≤ k
  k_pos = omega (arith, asked.cell)

  -- the digits of the rest of r
  abbrev rest : ℕ
  rest = r % weight (suc m) k

  rest_digit : rest / weight m k ≡ digit k r (suc m)
  rest_digit =
      ap (λ x. x / weight m k) (rest_one_more k k_pos m r) ∙ digits_div (digit k r (suc m)) (mod-lt r (weight_pos m k k_pos))

  rest_below : rest % weight m k ≡ r % weight m k
  rest_below = rest_of_rest k k_pos m (suc m) r (omega arith)

  -- the place m, and every other place
  modules_placed : Placed (λ i. restored_module (suc m) v (at ms i)) wide m v ms'
  modules_placed = placed _ wide m v ms'_is (omega (arith, asked.m_high))

  settings_placed : Placed (λ i. restored_setting (suc m) k v c (at ms i) (at ss i)) wide m c ss'
  settings_placed = placed _ wide m c ss'_is (omega (arith, asked.m_high))

  one_more_module : (i : ℕ) → i < suc m → at ms' i ≡ unrank_modules (suc m) k rest i
  one_more_module i h =
      by_last (λ x. at ms' x ≡ unrank_modules (suc m) k rest x) h
      (λ l. modules_placed.elsewhere i (omega (arith, asked.m_high)) (λ e. absurd (omega arith)) ∙ cc (v_is, rest_digit, rest_below, below.modules i l, unrank_module_front m k rest l))
      (modules_placed.here ∙ v_is ∙ ap (module_of (suc m)) (sym rest_digit) ∙ sym (unrank_module_last m k rest))

  one_more_setting : (i : ℕ) → i < suc m → at ss' i ≡ unrank_settings (suc m) k rest i
  one_more_setting i h =
      by_last (λ x. at ss' x ≡ unrank_settings (suc m) k rest x) h
      (λ l. settings_placed.elsewhere i (omega (arith, asked.m_high)) (λ e. absurd (omega arith)) ∙ cc (v_is, c_is, rest_digit, rest_below, below.modules i l, below.settings i l, unrank_setting_front m k rest l))
      (settings_placed.here ∙ c_is ∙ ap (setting_of (suc m)) (sym rest_digit) ∙ sym (unrank_setting_last m k rest))

  one_more_bounded : Bounded k ms' ss'
  one_more_bounded = record {
    modules_wide = modules_placed.as_long;
    settings_wide = settings_placed.as_long;
    modules_low = λ i h. by_eq i m (λ e. rw e (omega (arith, modules_placed.here, asked.cell, asked.m_high)))
        (λ ne. omega (arith, modules_placed.elsewhere i h ne, restored_low (suc m) v (at ms i) asked.m_high asked.cell.high (asked.bounded.modules_low i h)));
    settings_low = λ i h. by_eq i m (λ e. rw e (omega (arith, settings_placed.here, asked.cell)))
        (λ ne. omega (arith, settings_placed.elsewhere i h ne, restored_setting_lt (suc m) k v c (at ms i) (at ss i) k_pos));
  }

  one_more : Unranked (suc m) k r ms' ss'
  one_more = record { modules = one_more_module; settings = one_more_setting; bounded = one_more_bounded }

-- one digit of n taken: the rank above the other digits is r divided by their weight
module _ {n k above : ℕ} {ms₀ ss₀ : List ℕ} (r : ℕ) (asked : UnrankAsked n k ms₀ ss₀) (ne : n ≡ 0 → ⊥) (above_is : above ≡ r / weight (n - 1) k) where
  n_pos : 1 ≤ n
  n_pos = omega arith

  pub above_taken : above / (k * n) ≡ r / weight n k
  above_taken =
      ap (λ x. x / (k * n)) above_is ∙ div-div-eq-div-mul r (weight (n - 1) k) (k * n) ∙
      ap (λ x. r / x) (mul_comm (weight (n - 1) k) (k * n) ∙ weight_n n k n_pos refl)

  module_taken : n - above % (k * n) % n ≡ module_of (suc (n - 1)) (digit k r (suc (n - 1)))
  unfolding module_of digit
  module_taken = rw (one_fewer n_pos, above_is)

  setting_taken : above % (k * n) / n ≡ setting_of (suc (n - 1)) (digit k r (suc (n - 1)))
  unfolding setting_of digit
  setting_taken = rw (one_fewer n_pos, above_is)

  cell_taken : Cell (suc (n - 1)) k (n - above % (k * n) % n) (above % (k * n) / n)
  cell_taken = rw (module_taken, setting_taken) (cell_of_digit (n - 1) k (digit k r (suc (n - 1))) (digit_lt (n - 1) k r asked.k_low))

  module _ {ms ss : List ℕ} (below : Unranked (n - 1) k r ms ss) where
    pub restore_asked : RestoreAsked (n - 1) k (n - above % (k * n) % n) (above % (k * n) / n) ms ss
    restore_asked = record {
      m_high = omega (arith, asked.n_high);
      k_high = asked.k_high;
      cell = cell_taken;
      bounded = below.bounded;
    }

    pub unranked : {ms' ss' : List ℕ} →
        ms' ≡ set (row (λ i. restored_module (suc (n - 1)) (n - above % (k * n) % n) (at ms i)) wide) (n - 1) (n - above % (k * n) % n) →
        ss' ≡ set (row (λ i. restored_setting (suc (n - 1)) k (n - above % (k * n) % n) (above % (k * n) / n) (at ms i) (at ss i)) wide) (n - 1) (above % (k * n) / n) →
        Unranked n k r ms' ss'
    unranked {ms'} {ss'} ms'_is ss'_is =
        subst (λ x. Unranked x k r ms' ss') (one_fewer n_pos)
        (one_more (n - 1) k r restore_asked module_taken setting_taken below ms'_is ss'_is)

-- ---- writing an arrangement

-- the slots of a rank, stored over all n places of a row
module _ {n k r : ℕ} {ms ss : List ℕ} (h : r < weight n k) (slots : Unranked n k r ms ss) (xs : List ℕ) {ys : List ℕ} (whole : length xs ≡ n) where
  pub modules_stored : ys ≡ front (at ms) n xs → ys ≡ row (unrank_modules n k r) n
  modules_stored ys_is =
      rewritten (at ms) n n xs ys_is refl whole ∙
      row_ext _ _ n (λ i l. slots.modules i l ∙ ap (λ x. unrank_modules n k x i) (mod-eq_of_lt h))

  pub settings_stored : ys ≡ front (at ss) n xs → ys ≡ row (unrank_settings n k r) n
  settings_stored ys_is =
      rewritten (at ss) n n xs ys_is refl whole ∙
      row_ext _ _ n (λ i l. slots.settings i l ∙ ap (λ x. unrank_settings n k x i) (mod-eq_of_lt h))

-- rows with nothing in them can be unranked into
pub blank_asked : {n k : ℕ} → Permitted n k → UnrankAsked n k blank blank
blank_asked p = record {
  n_high = p.n_high;
  k_low = p.k_low;
  k_high = p.k_high;
  bounded = record {
    modules_wide = refl;
    settings_wide = refl;
    modules_low = λ i h. omega (arith, get_or-replicate {A = ℕ} wide i 0 0 h);
    settings_low = λ i h. omega (arith, get_or-replicate {A = ℕ} wide i 0 0 h, p.k_low);
  };
}
