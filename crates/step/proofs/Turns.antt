-- The board of the next rank. The digits below the lowest that is not full, x, fall to 0, digit x gains one, and those behind
-- stay; so only the pointers at s, x and x + 1 can change, and where digit x becomes full it joins the run behind it, whose end
-- the pointer at x + 1 held. Assumes nothing.
use mathlib.Core.Path.{◌≡◌, sym, ap, ◌∙◌}
use mathlib.Core.Bool.{true, false}
use mathlib.Core.Logic.{◌≢◌}
use Prim.Native.Nat.{ℕ, zero, suc, ◌+◌, ◌-◌, ◌*◌, ◌%◌, ◌≤◌, ◌<◌}
use native.Mathlib.Nat.{le_refl, mod-eq_of_lt, mod_self, mod-lt}
use native.Mathlib.Numerals.{add-one}
use native.Mathlib.Omega.{arith}
use borrow.Author.Tests.{eq-eqb, ne_eqb}
use Rattle.rows.proofs.Cases.{by_eq, by_lt, by_test}
use Rattle.sizes.specs.Sizes.{weight}
use Rattle.sizes.proofs.Weights.{weight_pos}
use Rattle.order.specs.Digits.{digit, flip_out, next_rank}
use Rattle.order.proofs.Digits.{IsFlip, Full, flip_out_lem, flip_unique, full_of, full_digit, full_each, digit_lt, digit_zero, after_full, after_open, after_behind}
use Rattle.board.specs.Board.{lowest_digit_lem, full, counter, begins, run_end_lem, pointer}
use Rattle.board.proofs.Runs.{lowest_one, lowest_more, lowest_range, roomy, full_below, full_here, is_full_lem, not_full, counter_below, counter_full, counter_open, full_ext, run_to, run_goes, run_ext, pointer_plain, pointer_inside, pointer_first, pointer_behind, pointer_end}

-- x is the lowest digit of r that is not full, or n + 1 where all are
pub record Turning (n k r x : ℕ) : Type 0 where
  pub one : 1 ≤ x
  pub most : x ≤ suc n
  pub below : (j : ℕ) → 1 ≤ j → j < x → suc (digit k r j) ≡ k * j
  pub own : x ≤ n → suc (digit k r x) < k * x

-- ---- the digits of the next rank

module _ {n k r x : ℕ} (k_low : 1 ≤ k) (n_low : 1 ≤ n) (r_low : r < weight n k) (turns : Turning n k r x) where
  full_before : Full (x - 1) k r
  full_before = full_of k k_low (x - 1) r (λ i a b. turns.below i a (omega (arith, turns.one)))

  pub s_low : lowest_digit_lem k ≤ x
  s_low = by_eq k 1
      (λ e. let two : lowest_digit_lem k ≡ 2 = rw e lowest_one in by_lt 1 x (λ l. omega arith)
      (λ l. let x_is : x ≡ 1 = omega (arith, turns.one) in
      let room : suc (digit k r x) < k * x = turns.own (omega arith) in
      let z : k * x ≡ 1 = rw (e, x_is) (omega arith) in absurd (omega arith)))
      (λ e. omega (arith, lowest_more k e, turns.one))

  -- where the round does not close
  module _ (inside : x ≤ n) where
    not_last : suc r < weight n k
    not_last = by_lt (suc r) (weight n k) (λ l. l) (λ l. absurd (no_room (omega arith)))
      where
        no_room : suc r ≡ weight n k → ⊥
        no_room e = let f : Full n k r = ap suc (mod-eq_of_lt r_low) ∙ e in full_here_too x inside turns.one f (turns.own inside)
          where
            full_here_too : (x : ℕ) → x ≤ n → 1 ≤ x → Full n k r → suc (digit k r x) < k * x → ⊥
            full_here_too zero a b f l = omega arith
            full_here_too (suc m) a b f l = omega (arith, full_each k k_low n r f (suc m) b (omega arith))

    pub next_inside : next_rank n k r ≡ suc r
    unfolding next_rank
    next_inside = ap (λ y. y % weight n k) (add-one r) ∙ mod-eq_of_lt not_last

    pub digit_own : digit k (suc r) x ≡ suc (digit k r x)
    digit_own = own_at x turns.one full_before (turns.own inside)
      where
        own_at : (x : ℕ) → 1 ≤ x → Full (x - 1) k r → suc (digit k r x) < k * x → digit k (suc r) x ≡ suc (digit k r x)
        own_at zero a f l = absurd (omega arith)
        own_at (suc m) a f l = let e : suc m - 1 ≡ m = omega arith in after_open k k_low m r (rw e at f) l

    pub digit_behind : (j : ℕ) → x < j → digit k (suc r) j ≡ digit k r j
    digit_behind j l = after_behind k k_low x r (rest_room x turns.one (turns.own inside)) j l
      where
        rest_room : (x : ℕ) → 1 ≤ x → suc (digit k r x) < k * x → suc (r % weight x k) < weight x k
        rest_room zero a b = absurd (omega arith)
        rest_room (suc m) a b =
            by_lt (suc (r % weight (suc m) k)) (weight (suc m) k) (λ l. l)
            (λ l. absurd (omega (arith, full_digit k k_low m r (omega (arith, mod-lt r (weight_pos (suc m) k k_low))))))

  -- where it closes
  pub next_closes : x ≡ suc n → next_rank n k r ≡ 0
  unfolding next_rank
  next_closes e =
      let f : Full n k r = full_of k k_low n r (λ i a b. turns.below i a (omega arith)) in
      let last : r + 1 ≡ weight n k = omega (arith, mod-eq_of_lt r_low) in
      ap (λ y. y % weight n k) last ∙ mod_self (weight n k)

  digit_lower : (j : ℕ) → 1 ≤ j → j < x → digit k (next_rank n k r) j ≡ 0
  digit_lower j a l =
      by_lt n x
      (λ g. ap (λ y. digit k y j) (next_closes (omega (arith, turns.most))) ∙ digit_zero k k_low j)
      (λ g. ap (λ y. digit k y j) (next_inside g) ∙ after_full k k_low (x - 1) r full_before j a (omega arith))

  -- ---- which digits are full, of r and of the next

  pub was_full : (j : ℕ) → lowest_digit_lem k ≤ j → j < x → full k (digit k r) j ≡ true
  was_full j a l = is_full_lem k (digit k r) j a (turns.below j (omega (arith, lowest_range k)) l)

  pub was_open : x ≤ n → full k (digit k r) x ≡ false
  was_open inside = not_full k (digit k r) x (turns.own inside)

  pub now_open : (j : ℕ) → j < x → full k (digit k (next_rank n k r)) j ≡ false
  now_open j l =
      by_lt j (lowest_digit_lem k) (full_below k _ j)
      (λ g. let z : digit k (next_rank n k r) j ≡ 0 = digit_lower j (omega (arith, lowest_range k)) l in
      not_full k _ j (omega (arith, roomy k j k_low g)))

  pub now_behind : x ≤ n → (j : ℕ) → x < j → full k (digit k (next_rank n k r)) j ≡ full k (digit k r) j
  now_behind inside j l = full_ext k _ _ j (ap (λ y. digit k y j) (next_inside inside) ∙ digit_behind inside j l)

  now_own : (inside : x ≤ n) → digit k (next_rank n k r) x ≡ suc (digit k r x)
  now_own inside = ap (λ y. digit k y x) (next_inside inside) ∙ digit_own inside

  -- digit x becomes full
  pub now_full : x ≤ n → suc (digit k r x) ≡ k * x - 1 → full k (digit k (next_rank n k r)) x ≡ true
  now_full inside e = full_here k _ x s_low ∙ eq-eqb (digit k (next_rank n k r) x) (k * x - 1) (now_own inside ∙ e)

  pub now_not_full : x ≤ n → suc (digit k r x) ≢ k * x - 1 → full k (digit k (next_rank n k r)) x ≡ false
  now_not_full inside e = full_here k _ x s_low ∙ ne_eqb (digit k (next_rank n k r) x) (k * x - 1) (λ z. e (sym (now_own inside) ∙ z))

  -- ---- the counters

  pub counter_at : x ≤ n → counter k (digit k r) x ≡ digit k r x
  counter_at inside = counter_open k (digit k r) x s_low (was_open inside)

  pub counter_filled : x ≤ n → suc (digit k r x) ≡ k * x - 1 → counter k (digit k (next_rank n k r)) x ≡ 0
  counter_filled inside e = counter_full k _ x (now_full inside e)

  pub counter_more : x ≤ n → suc (digit k r x) ≢ k * x - 1 → counter k (digit k (next_rank n k r)) x ≡ suc (digit k r x)
  counter_more inside e = counter_open k _ x s_low (now_not_full inside e) ∙ now_own inside

  pub counter_stays : (j : ℕ) → 1 ≤ j → j ≤ n → j ≢ x → counter k (digit k r) j ≡ counter k (digit k (next_rank n k r)) j
  counter_stays j a b ne =
      by_lt j (lowest_digit_lem k) (λ l. counter_below k (digit k r) j l ∙ sym (counter_below k _ j l))
      (λ g. by_lt j x
      (λ l. counter_full k (digit k r) j (was_full j g l) ∙ sym (counter_open k _ j g (now_open j l) ∙ digit_lower j a l))
      (λ l. let behind : x < j = omega arith in let inside : x ≤ n = omega arith in
      by_test (full k (digit k r) j)
      (λ t. counter_full k (digit k r) j t ∙ sym (counter_full k _ j (now_behind inside j behind ∙ t)))
      (λ t. counter_open k (digit k r) j g t ∙ sym (counter_open k _ j g (now_behind inside j behind ∙ t) ∙ ap (λ y. digit k y j) (next_inside inside) ∙ digit_behind inside j behind))))

  -- ---- the pointers

  -- the pointer at s is x
  pub points : pointer n k (digit k r) (lowest_digit_lem k) ≡ x
  points =
      by_lt (lowest_digit_lem k) x
      (λ l. pointer_first n k (digit k r) (was_full _ (le_refl _) l) ∙
      run_to (suc n - lowest_digit_lem k) k (digit k r) (lowest_digit_lem k) x s_low (omega (arith, turns.most)) (λ i a b. was_full i a b) (λ z. was_open (omega arith)))
      (λ l. let e : lowest_digit_lem k ≡ x = omega (arith, s_low) in rw e
      (by_lt n x (λ g. let z : x ≡ suc n = omega (arith, turns.most) in rw z (pointer_end n k (digit k r))) (λ g. pointer_plain n k (digit k r) x (was_open g))))

  -- a place below x, and not s, points to itself before and after
  pub pointer_lower : (j : ℕ) → 1 ≤ j → j < x → j ≢ lowest_digit_lem k → pointer n k (digit k r) j ≡ j
  pointer_lower j a l ne =
      by_lt j (lowest_digit_lem k) (λ g. pointer_plain n k (digit k r) j (full_below k (digit k r) j g))
      (λ g. pointer_inside n k (digit k r) j ne (was_full (j - 1) (omega arith) (omega arith)))

  pub pointer_now_lower : (j : ℕ) → j < x → pointer n k (digit k (next_rank n k r)) j ≡ j
  pointer_now_lower j l = pointer_plain n k _ j (now_open j l)

  -- behind x all runs end where they did
  run_same : x ≤ n → (m j : ℕ) → x < j → run_end_lem m k (digit k (next_rank n k r)) j ≡ run_end_lem m k (digit k r) j
  run_same inside m j l = run_ext m k _ _ j (λ i a b. now_behind inside i (omega arith))

  pub pointer_far : x ≤ n → (j : ℕ) → suc x < j → pointer n k (digit k (next_rank n k r)) j ≡ pointer n k (digit k r) j
  unfolding pointer begins
  pointer_far inside j l = rw (now_behind inside j (omega arith), now_behind inside (j - 1) (omega arith), run_same inside (suc n - j) j (omega arith))

  -- the pointer at x + 1 holds the end of the run behind x
  pub pointer_next : x ≤ n → pointer n k (digit k r) (suc x) ≡ run_end_lem (n - x) k (digit k r) (suc x)
  pointer_next inside =
      let e : suc x - 1 ≡ x = omega arith in let z : suc n - suc x ≡ n - x = omega arith in
      rw z at (pointer_behind n k (digit k r) (suc x) (omega arith) (rw e (was_open inside)))

  module _ (inside : x ≤ n) where
    -- digit x becomes full: its run goes on to where the pointer at x + 1 pointed, which then points to itself
    pub pointer_joined : suc (digit k r x) ≡ k * x - 1 → pointer n k (digit k (next_rank n k r)) x ≡ pointer n k (digit k r) (suc x)
    pointer_joined e =
        let z : suc n - x ≡ suc (n - x) = omega arith in
        pointer_behind n k _ x turns.one (now_open (x - 1) (omega (arith, turns.one))) ∙
        ap (λ m. run_end_lem m k (digit k (next_rank n k r)) x) z ∙ run_goes (n - x) k _ x (now_full inside e) ∙
        run_same inside (n - x) (suc x) (le_refl _) ∙ sym (pointer_next inside)

    pub pointer_parted : suc (digit k r x) ≡ k * x - 1 → pointer n k (digit k (next_rank n k r)) (suc x) ≡ suc x
    pointer_parted e =
        let z : suc x - 1 ≡ x = omega arith in pointer_inside n k _ (suc x) (λ q. omega (arith, s_low)) (rw z (now_full inside e))

    -- it does not: the pointers at x and x + 1 stay
    module _ (e : suc (digit k r x) ≢ k * x - 1) where
      pub pointer_own : pointer n k (digit k (next_rank n k r)) x ≡ x
      pointer_own = pointer_plain n k _ x (now_not_full inside e)

      pub pointer_next_stays : pointer n k (digit k (next_rank n k r)) (suc x) ≡ pointer n k (digit k r) (suc x)
      pointer_next_stays =
          let z : suc x - 1 ≡ x = omega arith in let y : suc n - suc x ≡ n - x = omega arith in
          (rw y at (pointer_behind n k (digit k (next_rank n k r)) (suc x) (omega arith) (rw z (now_not_full inside e)))) ∙
          run_same inside (n - x) (suc x) (le_refl _) ∙ sym (pointer_next inside)

-- ---- there is such an x

module _ (n k r : ℕ) (k_low : 1 ≤ k) (n_low : 1 ≤ n) where
  -- it is the flip out of r, unless the round closes
  pub by_turning : {P : Type 0} → ((x : ℕ) → Turning n k r x → P) → P
  by_turning {P} go = pick (flip_out n k r) (flip_out_lem n k r k_low n_low)
    where
      pick : (j : ℕ) → IsFlip n k r j → P
      pick j f =
          by_lt (suc (digit k r j)) (k * j)
          (λ room. go j (record { one = f.one; most = omega (arith, f.most); below = f.full; own = λ _. room }))
          (λ none. go (suc n) (record {
            one = omega arith;
            most = le_refl _;
            below = λ i a b. all j f none i a b;
            own = λ z. absurd (omega arith);
          }))
        where
          all : (j : ℕ) → IsFlip n k r j → k * j ≤ suc (digit k r j) → (i : ℕ) → 1 ≤ i → i < suc n → suc (digit k r i) ≡ k * i
          all zero f none i a b = absurd (omega (arith, f.one))
          all (suc m) f none i a b =
              by_lt i (suc m) (λ l. f.full i a l)
              (λ l. by_lt (suc m) n (λ g. absurd (omega (arith, f.stop g)))
              (λ g. let e : i ≡ suc m = omega (arith, f.most) in rw e (omega (arith, digit_lt m k r k_low))))

  pub turning_flip : (x : ℕ) → Turning n k r x → x ≤ n → flip_out n k r ≡ x
  turning_flip x t inside =
      flip_unique n k r _ x (flip_out_lem n k r k_low n_low) (record { one = t.one; most = inside; full = t.below; stop = λ _. t.own inside })

  pub turning_closes : Turning n k r (suc n) → flip_out n k r ≡ n
  turning_closes t =
      flip_unique n k r _ n (flip_out_lem n k r k_low n_low)
      (record { one = n_low; most = le_refl n; full = λ i a b. t.below i a (omega arith); stop = λ z. absurd (omega arith) })
