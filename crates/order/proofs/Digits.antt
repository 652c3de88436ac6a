-- The digits of a rank, and the flip that they name. The rest of a rank below m places is made of its first m digits, so they
-- are all full exactly where that rest is the largest there is. Assumes nothing.
use mathlib.Core.Path.{◌≡◌, refl, sym, ap, ◌∙◌}
use mathlib.Core.Bool.{true, false}
use Prim.Native.Nat.{ℕ, zero, suc, ◌+◌, ◌-◌, ◌*◌, ◌/◌, ◌%◌, ◌≤◌, ◌<◌, ◌∣◌}
use native.Mathlib.Nat.{div-add-mod', zero-mod, zero-div, le_antisymm, mod-lt, mod-eq_of_lt, mul-pos, le_refl, mul-le-mul_right, mod-one, mod-mod_of_dvd, dvd_refl, dvd-mul_left_of_dvd, mul-div_cancel, mul-mod_left, add-zero}
use native.Mathlib.Decide.{le_ind}
use native.Mathlib.Omega.{arith}
use lib.Arith.{digits_lt, digits_div, digits_mod, mod-mul}
use borrow.Author.Tests.{ltb-true, ltb-false}
use Rattle.rows.specs.Search.{or_else}
use Rattle.rows.proofs.Cases.{by_lt}
use Rattle.rows.proofs.Searches.{by_lowest}
use Rattle.sizes.specs.Sizes.{weight}
use Rattle.sizes.proofs.Weights.{weight_zero, weight_suc, weight_pos}
use Rattle.order.specs.Digits.{digit, open_digit, flip_out, of_digits}

-- j is the length of the flip that the digits of r name: those below j are full, and j's own is not, unless j is n
pub record IsFlip (n k r j : ℕ) : Type 0 where
  pub one : 1 ≤ j
  pub most : j ≤ n
  pub full : (i : ℕ) → 1 ≤ i → i < j → suc (digit k r i) ≡ k * i
  pub stop : j < n → suc (digit k r j) < k * j

-- the digits 1..m of r are all full
abbrev pub Full : ℕ → ℕ → ℕ → Type 0
Full m k r = suc (r % weight m k) ≡ weight m k

pub digit_lt : (m k r : ℕ) → 1 ≤ k → digit k r (suc m) < k * suc m
unfolding digit
digit_lt m k r h = mod-lt _ (mul-pos h (omega arith))

module _ (k : ℕ) (h : 1 ≤ k) where
  pub rest_one_more : (m r : ℕ) → r % weight (suc m) k ≡ digit k r (suc m) * weight m k + r % weight m k
  unfolding digit
  rest_one_more m r = rw weight_suc (mod-mul r (mul-pos h (omega arith)) (weight_pos m k h))

  pub full_suc : (m r : ℕ) → Full m k r → suc (digit k r (suc m)) ≡ k * suc m → Full (suc m) k r
  full_suc m r t e = omega (arith, rest_one_more m r, weight_suc m k, ap (λ x. x * weight m k) e)

  pub full_of : (m r : ℕ) → ((i : ℕ) → 1 ≤ i → i < suc m → suc (digit k r i) ≡ k * i) → Full m k r
  full_of zero r f = rw weight_zero (rw mod-one)
  full_of (suc m) r f = full_suc m r (full_of m r (λ i a b. f i a (omega arith))) (f (suc m) (omega arith) (le_refl _))

  pub full_digit : (m r : ℕ) → Full (suc m) k r → suc (digit k r (suc m)) ≡ k * suc m
  full_digit m r t =
      let w = rest_one_more m r in
      let e = weight_suc m k in
      let a = mod-lt r (weight_pos m k h) in
      let b = digit_lt m k r h in
      by_lt (suc (digit k r (suc m))) (k * suc m)
      (λ l. absurd (omega (arith, mul-le-mul_right (weight m k) l)))
      (λ l. omega arith)

  pub full_pred : (m r : ℕ) → Full (suc m) k r → Full m k r
  full_pred m r t = omega (arith, rest_one_more m r, weight_suc m k, ap (λ x. x * weight m k) (full_digit m r t))

  pub full_down : (p m r : ℕ) → p ≤ m → Full m k r → Full p k r
  full_down p m r l = le_ind (λ x. Full x k r → Full p k r) (λ t. t) (λ x a f t. f (full_pred x r t)) m l

  pub full_each : (m r : ℕ) → Full m k r → (i : ℕ) → 1 ≤ i → i < suc m → suc (digit k r i) ≡ k * i
  full_each m r t zero a b = absurd (omega arith)
  full_each m r t (suc i) a b = full_digit i r (full_down (suc i) m r (omega arith) t)

  pub weight_divides : {p m : ℕ} → p ≤ m → weight p k ∣ weight m k
  weight_divides {p} {m} l =
      le_ind (λ x. weight p k ∣ weight x k) (dvd_refl _) (λ x a d. rw weight_suc (dvd-mul_left_of_dvd _ d _)) m l

  pub rest_of_rest : (p m r : ℕ) → p ≤ m → r % weight m k % weight p k ≡ r % weight p k
  rest_of_rest p m r l = mod-mod_of_dvd _ r (weight_divides l)

-- a digit that is open, and one that is not
opened : (k r i : ℕ) → open_digit k r i ≡ true → suc (digit k r (suc i)) < k * suc i
unfolding open_digit
opened k r i t = let l : digit k r (suc i) < k * suc i - 1 = ltb-true _ _ t in omega arith

closed : (k : ℕ) → 1 ≤ k → (r i : ℕ) → 1 ≤ i → open_digit k r (i - 1) ≡ false → suc (digit k r i) ≡ k * i
unfolding open_digit
closed k h r zero a f = absurd (omega arith)
closed k h r (suc m) a f =
    let e : suc m - 1 ≡ m = omega arith in
    let l : k * suc m - 1 ≤ digit k r (suc m) = ltb-false _ _ (rw e at f) in omega (arith, digit_lt m k r h)

pub mul_mod_mul : (a b c : ℕ) → 1 ≤ b → 1 ≤ c → (a * c) % (b * c) ≡ (a % b) * c
mul_mod_mul a b c hb hc = mod-mul (a * c) hb hc ∙ rw (mul-div_cancel a hc, mul-mod_left a c) (add-zero _)

flip_le : (n k r i j : ℕ) → IsFlip n k r i → IsFlip n k r j → i ≤ j
flip_le n k r i j a b = by_lt j i (λ l. absurd (omega (arith, a.full j b.one l, b.stop (omega (arith, a.most))))) (λ l. l)

pub flip_unique : (n k r i j : ℕ) → IsFlip n k r i → IsFlip n k r j → i ≡ j
flip_unique n k r i j a b = le_antisymm (flip_le n k r i j a b) (flip_le n k r j i b a)

-- the flip out of r is that length
pub flip_out_lem : (n k r : ℕ) → 1 ≤ k → 1 ≤ n → IsFlip n k r (flip_out n k r)
unfolding flip_out or_else
flip_out_lem n k r h l =
    by_lowest (open_digit k r) n
    (λ none e. rw e (record {
      one = l;
      most = le_refl n;
      full = λ i a b. closed k h r i a (none (i - 1) (omega arith));
      stop = λ z. absurd (omega arith);
    }))
    (λ i b t low e. rw e (record {
      one = omega arith;
      most = b;
      full = λ x a c. closed k h r x a (low (x - 1) (omega arith));
      stop = λ z. opened k r i t;
    }))

-- ---- digits from a rank, and a rank from digits

module _ (k : ℕ) (h : 1 ≤ k) where
  -- the first n digits of a number stand for its rest below n places
  pub of_digits_lem : (n r : ℕ) → of_digits n k (digit k r) ≡ r % weight n k
  unfolding of_digits
  of_digits_lem zero r = rw weight_zero (sym (mod-one r))
  of_digits_lem (suc m) r = rw (of_digits_lem m r) (sym (rest_one_more k h m r))

  -- so those of a rank stand for it
  pub rank_of_digits : (n r : ℕ) → r < weight n k → of_digits n k (digit k r) ≡ r
  rank_of_digits n r l = of_digits_lem n r ∙ mod-eq_of_lt l

  -- the digits below m places are those of the rest
  digit_of_rest : (p r s : ℕ) → r % weight (suc p) k ≡ s % weight (suc p) k → digit k r (suc p) ≡ digit k s (suc p)
  digit_of_rest p r s e =
      let below : (t : ℕ) → t % weight p k < weight p k = λ t. mod-lt t (weight_pos p k h) in
      sym (digits_div (digit k r (suc p)) (below r)) ∙
      ap (λ x. x / weight p k) (sym (rest_one_more k h p r) ∙ e ∙ rest_one_more k h p s) ∙
      digits_div (digit k s (suc p)) (below s)

  -- digit x put above a rest of m places
  module _ (m rest x : ℕ) (rest_lt : rest < weight m k) where
    top_digit : x < k * suc m → digit k (x * weight m k + rest) (suc m) ≡ x
    unfolding digit
    top_digit x_lt = rw (digits_div x rest_lt) (mod-eq_of_lt x_lt)

    lower_digit : (j : ℕ) → 1 ≤ j → j ≤ m → digit k (x * weight m k + rest) j ≡ digit k rest j
    lower_digit zero a l = absurd (omega arith)
    lower_digit (suc p) a l =
        digit_of_rest p _ _
        (sym (rest_of_rest k h (suc p) m (x * weight m k + rest) l) ∙ ap (λ y. y % weight (suc p) k) (digits_mod x rest_lt))

  -- digits in their ranges stand for a rank
  module _ (d : ℕ → ℕ) where
    pub of_digits_lt : (n : ℕ) → ((j : ℕ) → 1 ≤ j → j ≤ n → d j < k * j) → of_digits n k d < weight n k
    unfolding of_digits
    of_digits_lt zero all = rw weight_zero (le_refl 1)
    of_digits_lt (suc m) all =
        rw weight_suc (digits_lt (all (suc m) (omega arith) (le_refl _)) (of_digits_lt m (λ j a b. all j a (omega arith))))

    -- and are its digits
    pub digit_of_digits : (n : ℕ) → ((j : ℕ) → 1 ≤ j → j ≤ n → d j < k * j) → (j : ℕ) → 1 ≤ j → j ≤ n → digit k (of_digits n k d) j ≡ d j
    unfolding of_digits
    digit_of_digits zero all j a b = absurd (omega arith)
    digit_of_digits (suc m) all j a b =
        let rest_lt = of_digits_lt m (λ i x y. all i x (omega arith)) in
        by_lt m j
        (λ l. let e : j ≡ suc m = omega arith in rw e (top_digit m (of_digits m k d) (d (suc m)) rest_lt (all (suc m) (omega arith) (le_refl _))))
        (λ l. lower_digit m (of_digits m k d) (d (suc m)) rest_lt j a l ∙ digit_of_digits m (λ i x y. all i x (omega arith)) j a l)

-- ---- the digits of the number after r

module _ (k : ℕ) (h : 1 ≤ k) where
  -- the digits of 0
  pub digit_zero : (j : ℕ) → digit k 0 j ≡ 0
  unfolding digit
  digit_zero zero = refl
  digit_zero (suc q) = rw (zero-div (weight q k)) (zero-mod (k * suc q))

  -- the first p digits are full: they become 0
  pub after_full : (p r : ℕ) → Full p k r → (j : ℕ) → 1 ≤ j → j ≤ p → digit k (suc r) j ≡ 0
  after_full p r t zero a l = absurd (omega arith)
  after_full p r t (suc q) a l =
      let w = weight (suc q) k in
      let here : suc (r % w) ≡ w = full_down k h (suc q) p r l t in
      let whole : suc r ≡ (r / w + 1) * w = omega (arith, div-add-mod' r w) in
      digit_of_rest k h q (suc r) 0 (ap (λ x. x % w) whole ∙ mul-mod_left (r / w + 1) w ∙ sym (zero-mod w)) ∙ digit_zero (suc q)

  -- the digits below m + 1 are full and that one is not: it becomes one more
  pub after_open : (m r : ℕ) → Full m k r → suc (digit k r (suc m)) < k * suc m → digit k (suc r) (suc m) ≡ suc (digit k r (suc m))
  after_open m r t room =
      let d = digit k r (suc m) in
      let w = weight m k in
      let rest : suc (r % weight (suc m) k) ≡ suc d * w + 0 = omega (arith, rest_one_more k h m r) in
      let below : suc d * w + 0 < weight (suc m) k = rw weight_suc (digits_lt room (weight_pos m k h)) in
      let same : suc r % weight (suc m) k ≡ (suc d * w + 0) % weight (suc m) k = suc_rest (weight (suc m) k) r (omega arith) ∙ rest ∙ sym (mod-eq_of_lt below) in
      digit_of_rest k h m (suc r) (suc d * w + 0) same ∙ top_digit k h m 0 (suc d) (weight_pos m k h) room
    where
      suc_rest : (w r : ℕ) → suc (r % w) < w → suc r % w ≡ suc (r % w)
      suc_rest w r l = ap (λ x. x % w) {x = suc r} {y = r / w * w + suc (r % w)} (omega (arith, div-add-mod' r w)) ∙ digits_mod (r / w) l

  -- not all of the first m are full: those behind stay
  pub after_behind : (m r : ℕ) → suc (r % weight m k) < weight m k → (j : ℕ) → m < j → digit k (suc r) j ≡ digit k r j
  after_behind m r room zero l = absurd (omega arith)
  after_behind m r room (suc q) l = unfold digit in ap (λ x. x % (k * suc q)) same
    where
      not_full : suc (r % weight q k) < weight q k
      not_full = by_lt (suc (r % weight q k)) (weight q k) (λ x. x)
          (λ g. absurd (omega (arith, full_down k h m q r (omega arith) (omega (arith, mod-lt r (weight_pos q k h))))))

      same : suc r / weight q k ≡ r / weight q k
      same = ap (λ x. x / weight q k) {x = suc r} {y = r / weight q k * weight q k + suc (r % weight q k)} (omega (arith, div-add-mod' r (weight q k))) ∙ digits_div (r / weight q k) not_full
