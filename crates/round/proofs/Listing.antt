-- The part of Rec_k(p) that ends in r_i = p_v^{+c} lists ρ(p)_i = p_(v+1)^{+(c+1)} .. p_j^{+(c+1)} p_1^{+c} .. p_(v-1)^{+c}, which
-- is what undoing the renaming by v:c makes of p. So by induction on the symbols its element r is the arrangement of rank r, with
-- p_v^{+c} for each v:c; from home, where that is v:c itself, the published listing is the order of the ranks. Assumes nothing.
use mathlib.Core.Path.{◌≡◌, refl, sym, ap, ap₂, ◌∙◌}
use mathlib.Core.List.{List, [], ◌∷◌, ◌++◌}
use Prim.Native.Nat.{ℕ, zero, suc, ◌+◌, ◌-◌, ◌*◌, ◌/◌, ◌%◌, ◌≤◌, ◌<◌}
use native.Mathlib.Nat.{mod-lt, div-add-mod', mod-add-mod, add-mod-mod, add-mod_right, mod-eq_of_lt, div-lt_iff_lt-mul, div-one, mod-one, mul-le-mul_right}
use native.Mathlib.Omega.{arith}
use lib.ListN.{length, drop, get_or, length-append, length-take, length-drop, length-map, get_or-append}
use lib.Seq.{get_or-append-add, get_or-take, get_or-drop, ext_get_or}
use Rattle.rows.proofs.Cases.{by_lt}
use Rattle.sizes.specs.Sizes.{weight}
use Rattle.sizes.proofs.Weights.{weight_zero, weight_suc, weight_pos}
use Rattle.arrangement.specs.Arrangement.{Cell, home_modules, home_settings}
use Rattle.order.specs.Rank.{raised_by, restored_module, restored_setting, last_digit_lem, module_of, setting_of, unrank_modules, unrank_settings}
use Rattle.order.proofs.Renaming.{restored_below, restored_above, restored_setting_below, restored_setting_above}
use Rattle.order.proofs.Ranks.{digit_of_cell, cell_of_digit, unrank_module_front, unrank_module_last, unrank_setting_front, unrank_setting_last, unrank_valid}
use Rattle.round.specs.Listing.{Symbol, list_of, joined_down, symbols, home, symbol_at, raised_symbol, raised_row, circular_word, subword, appended, listing}
use Rattle.round.proofs.Lists.{get_or_map, length_list, get_or_list, list_ext, length_joined, get_or_joined}

-- ---- symbols raised

-- p_v^{+c}, which stands for v:c where p is taken for 1^0 2^0 ..
symbol_for : ℕ → List Symbol → ℕ → ℕ → Symbol
symbol_for k p v c = raised_symbol k c (symbol_at p v)

module _ (k : ℕ) (p : List Symbol) (v c : ℕ) where
  raised_more : (t : ℕ) → raised_symbol k t (symbol_for k p v c) ≡ symbol_for k p v (raised_by k t c)
  unfolding symbol_for raised_symbol raised_by
  raised_more t =
      let s = (symbol_at p v).1 in
      let e : s + c + t ≡ s + (t + c) = omega arith in
      ap (λ (d : ℕ). ((symbol_at p v).0, d)) (simp (mod-add-mod, add-mod-mod) (ap (λ x. x % k) e))

  raised_round : symbol_for k p v (c + k) ≡ symbol_for k p v c
  unfolding symbol_for raised_symbol raised_by
  raised_round =
      let s = (symbol_at p v).1 in
      let e : s + (c + k) ≡ s + c + k = omega arith in
      ap (λ (d : ℕ). ((symbol_at p v).0, d)) (ap (λ x. x % k) e ∙ add-mod_right (s + c) k)

-- ---- the circular word

-- of k parts p^{+(k-1)} .. p^{+0} with j symbols each, symbol i is symbol o of p^{+s}
record Place (j k i s o : ℕ) : Type 0 where
  part : s < k
  low : 1 ≤ o
  high : o ≤ j
  place : i + suc s * j ≡ k * j + o

-- the word as it goes round: it has k + k parts
abbrev twice : ℕ → List Symbol → List Symbol
twice k p = circular_word k p ++ circular_word k p

module _ (j k : ℕ) (p : List Symbol) (size : length p ≡ j) where
  even : (s : ℕ) → length (raised_row k s p) ≡ j
  unfolding raised_row
  even s = length-map p _ ∙ size

  length_word : length (circular_word k p) ≡ k * j
  unfolding circular_word
  length_word = length_joined j _ (λ s. even _) k

  word_symbol : {i s o : ℕ} → Place j k i s o → symbol_at (circular_word k p) i ≡ symbol_for k p o s
  unfolding circular_word symbol_at raised_row symbol_for
  word_symbol {i} {s} {o} P =
      let before : k - suc s + suc s ≡ k = omega arith in
      let place : i - 1 ≡ (k - suc s) * j + (o - 1) = omega (arith, ap (λ x. x * j) before) in
      rw place
      (get_or_joined j (λ s. raised_row k s p) even k (k - suc s) s (o - 1) (0, 0) before (omega arith)
      ∙ get_or_map (raised_symbol k s) p (o - 1) (0, 0) (0, 0) (omega arith))

  first_copy : (i : ℕ) → 1 ≤ i → i ≤ k * j → symbol_at (twice k p) i ≡ symbol_at (circular_word k p) i
  unfolding symbol_at
  first_copy i low high = get_or-append (circular_word k p) (circular_word k p) (0, 0) (i - 1) (omega (arith, length_word))

  second_copy : (i : ℕ) → k * j < i → symbol_at (twice k p) i ≡ symbol_at (circular_word k p) (i - k * j)
  unfolding symbol_at
  second_copy i h =
      let place : i - 1 ≡ length (circular_word k p) + (i - k * j - 1) = omega (arith, length_word) in
      rw place (get_or-append-add (circular_word k p) (circular_word k p) (i - k * j - 1) (0, 0))

  twice_symbol : {i s o : ℕ} → Place j (k + k) i s o → symbol_at (twice k p) i ≡ symbol_for k p o s
  twice_symbol {i} {s} {o} P =
      by_lt s k
      (λ h. let l = mul-le-mul_right j h in second_copy i (omega arith) ∙ word_symbol (omega arith))
      (λ h. let l = mul-le-mul_right j h in
      let round : s - k + k ≡ s = omega arith in
      first_copy i (omega (arith, mul-le-mul_right j P.part)) (omega arith)
      ∙ word_symbol {s = s - k} {o = o} (omega (arith, ap (λ x. x * j) round))
      ∙ sym (raised_round k p o (s - k)) ∙ ap (symbol_for k p o) round)

  -- symbol x of ρ(p)_i, raised by t
  subword_symbol : (i x t : ℕ) {s o : ℕ} → 1 ≤ x → x < j → Place j (k + k) (k * j + i - j + x) s o
      → symbol_for k (subword j k p i) x t ≡ symbol_for k p o (raised_by k t s)
  unfolding subword symbol_at symbol_for
  subword_symbol i x t {s} {o} low high P =
      let start = k * j + i - j in
      let place : start + (x - 1) ≡ start + x - 1 = omega arith in
      ap (raised_symbol k t)
      (get_or-take (j - 1) (drop start (twice k p)) (x - 1) (0, 0) (omega arith) ∙ get_or-drop start (twice k p) (x - 1) (0, 0)
      ∙ ap (λ y. get_or (twice k p) y (0, 0)) place ∙ twice_symbol P)
      ∙ raised_more k p o s t

length_subword : (m k : ℕ) (p : List Symbol) (i : ℕ) → length p ≡ suc m → 1 ≤ k → i ≤ k * suc m → length (subword (suc m) k p i) ≡ m
unfolding subword
length_subword m k p i size low high =
    simp (length-take, length-drop, length-append, length_word (suc m) k p size) (omega (arith, mul-le-mul_right (suc m) low))

-- ---- a part of the listing

-- the part that ends in r_i = p_v^{+c}: as many others stand before it as the last digit of v:c says
module _ {m k v c : ℕ} (p : List Symbol) (i : ℕ) (size : length p ≡ suc m) (C : Cell (suc m) k v c)
    (place : last_digit_lem (suc m) v c + i ≡ k * suc m) where
  last_symbol : symbol_at (circular_word k p) i ≡ symbol_for k p v c
  unfolding last_digit_lem
  last_symbol = word_symbol (suc m) k p size (omega arith)

  restored_symbol : (x t : ℕ) → 1 ≤ x → x ≤ m
      → symbol_for k (subword (suc m) k p i) x t ≡ symbol_for k p (restored_module (suc m) v x) (restored_setting (suc m) k v c x t)
  unfolding last_digit_lem
  restored_symbol x t low high =
      let l = mul-le-mul_right (suc m) C.setting in
      by_lt (suc m) (v + x)
      (λ g. let e = restored_below (suc m) v x g in
      rw (restored_setting_below k v c (suc m) x t g) (subword_symbol (suc m) k p size i x t low (omega arith) (omega arith)))
      (λ g. let e = restored_above (suc m) v x g in
      rw (restored_setting_above k v c (suc m) x t g) (subword_symbol (suc m) k p size i x t low (omega arith) (omega arith)))

-- ---- the arrangement of rank r, with p taken for 1^0 2^0 ..

ranked : ℕ → ℕ → List Symbol → ℕ → List Symbol
ranked n k p r = list_of (λ i. symbol_for k p (unrank_modules n k r i) (unrank_settings n k r i)) n

-- of one symbol
module _ (k r : ℕ) where
  one_module : unrank_modules 1 k r 0 ≡ 1
  unfolding module_of
  one_module = unrank_module_last 0 k r ∙ rw mod-one

  one_setting : unrank_settings 1 k r 0 ≡ r
  unfolding setting_of
  one_setting = unrank_setting_last 0 k r ∙ rw (weight_zero, div-one (r / 1), div-one r)

  ranked_one : (p : List Symbol) → length p ≡ 1 → raised_row k r p ≡ ranked 1 k p r
  unfolding ranked list_of raised_row symbol_for symbol_at
  ranked_one [] size = absurd (omega arith)
  ranked_one (x ∷ []) size = rw (one_module, one_setting)
  ranked_one (x ∷ y ∷ p) size = absurd (omega arith)

last_digit_below : (m k r : ℕ) → 1 ≤ k → r < weight (suc m) k → r / weight m k < k * suc m
last_digit_below m k r low below = (div-lt_iff_lt-mul (weight_pos m k low)).1 (rw weight_suc at below)

-- of one symbol more: its last symbol is r_i, and those before it are of ρ(p)_i
module _ (m k : ℕ) (p : List Symbol) (r i : ℕ) (low : 1 ≤ k) (size : length p ≡ suc m) (below : r < weight (suc m) k)
    (place : r / weight m k + i ≡ k * suc m) where
  top : Cell (suc m) k (module_of (suc m) (r / weight m k)) (setting_of (suc m) (r / weight m k))
  top = cell_of_digit m k _ (last_digit_below m k r low below)

  behind : last_digit_lem (suc m) (module_of (suc m) (r / weight m k)) (setting_of (suc m) (r / weight m k)) + i ≡ k * suc m
  behind = omega (arith, digit_of_cell m (r / weight m k))

  ranked_more : ranked m k (subword (suc m) k p i) (r % weight m k) ++ (symbol_at (circular_word k p) i ∷ []) ≡ ranked (suc m) k p r
  unfolding ranked list_of
  ranked_more =
      ap₂ (λ (q : List Symbol) (x : Symbol). q ++ (x ∷ []))
      (list_ext _ _ m (λ slot h.
      let x = (unrank_valid m k (r % weight m k) low (mod-lt r (weight_pos m k low))).cell slot h in
      restored_symbol p i size top behind _ _ x.low x.high ∙ rw (unrank_module_front m k r h, unrank_setting_front m k r h)))
      (last_symbol p i size top behind ∙ rw (unrank_module_last m k r, unrank_setting_last m k r))

-- ---- the listing

listing_length : (j k : ℕ) (p : List Symbol) → length (listing (suc j) k p) ≡ weight (suc j) k
unfolding listing appended
listing_length zero k p = length_list _ k ∙ rw (weight_suc, weight_zero) (omega arith)
listing_length (suc j) k p =
    length_joined (weight (suc j) k) _ (λ i. length-map (listing (suc j) k _) _ ∙ listing_length j k _) (k * suc (suc j))
    ∙ sym (weight_suc (suc j) k)

-- element r of Rec_k(p) is the arrangement of rank r, with p taken for 1^0 2^0 ..
listing_row : (j k : ℕ) (p : List Symbol) → 1 ≤ k → length p ≡ suc j → (r : ℕ) → r < weight (suc j) k
    → get_or (listing (suc j) k p) r [] ≡ ranked (suc j) k p r
unfolding listing appended
listing_row zero k p low size r below =
    get_or_list _ k r [] (omega (arith, weight_suc 0 k, ap (λ x. k * 1 * x) (weight_zero k))) ∙ ranked_one k r p size
listing_row (suc j) k p low size r below =
    ap (λ x. get_or (listing n k p) x []) (sym (div-add-mod' r w))
    ∙ get_or_joined w _ (λ i. length-map (listing (suc j) k _) _ ∙ listing_length j k _) (k * n) (r / w) i (r % w) [] place rest
    ∙ get_or_map (λ q. q ++ (symbol_at (circular_word k p) (suc i) ∷ [])) (listing (suc j) k sub) (r % w) [] [] inside
    ∙ ap (λ q. q ++ (symbol_at (circular_word k p) (suc i) ∷ [])) (listing_row j k sub low sub_size (r % w) rest)
    ∙ ranked_more (suc j) k p r (suc i) low size below place
  where
    n : ℕ
    n = suc (suc j)

    w : ℕ
    w = weight (suc j) k

    i : ℕ
    i = k * n - suc (r / w)

    sub : List Symbol
    sub = subword n k p (suc i)

    rest : r % w < w
    rest = mod-lt r (weight_pos (suc j) k low)

    inside : r % w < length (listing (suc j) k sub)
    inside = rw listing_length rest

    place : r / w + suc i ≡ k * n
    place = omega (arith, last_digit_below (suc j) k r low below)

    sub_size : length sub ≡ suc j
    sub_size = length_subword (suc j) k p (suc i) size low (omega (arith, place))

-- ---- from home

-- p_v^{+c} is v:c itself
home_symbol : {n k v c : ℕ} → Cell n k v c → symbol_for k (home n) v c ≡ (v, c)
unfolding symbol_for symbol_at home symbols home_modules home_settings raised_symbol raised_by
home_symbol {n} {k} {v} {c} C =
    let module_is : suc (v - 1) ≡ v = omega arith in
    let setting_is : 0 + c ≡ c = omega arith in
    rw (get_or_list {A = Symbol} (λ i. (suc i, 0)) n (v - 1) (0, 0) (omega arith), module_is, setting_is, mod-eq_of_lt C.setting)

-- Rec_k(1^0 2^0 .. n^0) has as many elements as there are arrangements
pub listing_count : (n k : ℕ) → 1 ≤ n → length (listing n k (home n)) ≡ weight n k
listing_count zero k h = absurd (omega arith)
listing_count (suc j) k h = listing_length j k _

-- and its element r, counted from 0, is the arrangement of rank r
pub listing_home : (n k r : ℕ) → 1 ≤ n → 1 ≤ k → r < weight n k
    → get_or (listing n k (home n)) r [] ≡ symbols n (unrank_modules n k r) (unrank_settings n k r)
unfolding symbols ranked
listing_home zero k r h low below = absurd (omega arith)
listing_home (suc j) k r h low below =
    listing_row j k (home (suc j)) low (unfold home in length_list _ (suc j)) r below
    ∙ list_ext _ _ (suc j) (λ i l. home_symbol ((unrank_valid (suc j) k r low below).cell i l))

-- so it is, as a whole, the arrangements in the order of their ranks
pub listing_all : (n k : ℕ) → 1 ≤ n → 1 ≤ k
    → listing n k (home n) ≡ list_of (λ r. symbols n (unrank_modules n k r) (unrank_settings n k r)) (weight n k)
listing_all n k h low =
    ext_get_or [] _ _ (listing_count n k h ∙ sym (length_list _ (weight n k)))
    (λ r l. let below : r < weight n k = omega (arith, listing_count n k h) in
    listing_home n k r h low below ∙ sym (get_or_list _ (weight n k) r [] below))

-- ---- 000, section 2, example 1: k = 4. For ρ(p)_2, which is r_12 r_1, 001 prints 3^0 1^3 by a slip

-- p = 1^0 2^0 3^2
abbrev example : List Symbol
example = (1, 0) ∷ (2, 0) ∷ (3, 2) ∷ []

word_example : circular_word 4 example
    ≡ (1, 3) ∷ (2, 3) ∷ (3, 1) ∷ (1, 2) ∷ (2, 2) ∷ (3, 0) ∷ (1, 1) ∷ (2, 1) ∷ (3, 3) ∷ (1, 0) ∷ (2, 0) ∷ (3, 2) ∷ []
unfolding circular_word joined_down raised_row raised_symbol raised_by
word_example = refl

subword_example : (subword 3 4 example 5 ≡ (3, 1) ∷ (1, 2) ∷ []) × (subword 3 4 example 2 ≡ (3, 2) ∷ (1, 3) ∷ [])
unfolding subword circular_word joined_down raised_row raised_symbol raised_by
subword_example = (refl, refl)
