-- Full digits, the ends of their runs, and the pointers. A pointer is decided by two neighbouring digits and by the run behind
-- them, so digits that are full alike have the same pointers. Assumes nothing.
use mathlib.Core.Path.{◌≡◌, refl, sym, ap, ◌∙◌}
use mathlib.Core.Bool.{Bool, true, false, cond}
use mathlib.Core.Logic.{◌≢◌}
use Prim.Native.Nat.{ℕ, zero, suc, ◌+◌, ◌-◌, ◌*◌, ◌≤◌, ◌<◌}
use native.Mathlib.Nat.{le_refl, mul-le-mul_right}
use native.Mathlib.Omega.{arith}
use lib.Dec.{eqb}
use lib.ListN.{length}
use borrow.Author.Tests.{eq-eqb, ne_eqb, lt-ltb, le-ltb}
use Rattle.rows.proofs.Cases.{by_eq, by_lt, by_test}
use Rattle.rows.proofs.Rows.{length_row, at_row, row_ext}
use Rattle.board.specs.Board.{place, lowest_digit_lem, full, counter, begins, run_end_lem, pointer, counters, pointers}

-- a place, counted from 1
pub back : (j : ℕ) → 1 ≤ j → suc (j - 1) ≡ j
back j a = omega arith

-- ---- s

pub lowest_one : lowest_digit_lem 1 ≡ 2
unfolding lowest_digit_lem
lowest_one = refl

pub lowest_more : (k : ℕ) → k ≢ 1 → lowest_digit_lem k ≡ 1
unfolding lowest_digit_lem
lowest_more k h = rw (ne_eqb k 1 h)

pub lowest_range : (k : ℕ) → (1 ≤ lowest_digit_lem k) × (lowest_digit_lem k ≤ 2)
lowest_range k = by_eq k 1 (λ e. rw e (rw lowest_one (omega arith))) (λ e. rw (lowest_more k e) (omega arith))

-- a digit from s on has room
pub roomy : (k j : ℕ) → 1 ≤ k → lowest_digit_lem k ≤ j → 2 ≤ k * j
roomy k j h l =
    by_eq k 1
    (λ e. let two : lowest_digit_lem k ≡ 2 = rw e lowest_one in omega (arith, ap (λ x. x * j) e))
    (λ e. let one : lowest_digit_lem k ≡ 1 = lowest_more k e in let two : 2 ≤ k = omega arith in omega (arith, mul-le-mul_right j two))

-- ---- a full digit

module _ (k : ℕ) (d : ℕ → ℕ) (j : ℕ) where
  pub full_below : j < lowest_digit_lem k → full k d j ≡ false
  unfolding full
  full_below l = rw (lt-ltb j (lowest_digit_lem k) l)

  pub full_here : lowest_digit_lem k ≤ j → full k d j ≡ eqb (d j) (k * j - 1)
  unfolding full
  full_here l = rw (le-ltb j (lowest_digit_lem k) l)

  pub is_full_lem : lowest_digit_lem k ≤ j → suc (d j) ≡ k * j → full k d j ≡ true
  is_full_lem l e = full_here l ∙ eq-eqb (d j) (k * j - 1) (omega arith)

  pub not_full : suc (d j) < k * j → full k d j ≡ false
  not_full l = by_lt j (lowest_digit_lem k) full_below (λ g. full_here g ∙ ne_eqb (d j) (k * j - 1) (λ e. omega arith))

  pub counter_below : j < lowest_digit_lem k → counter k d j ≡ 0
  unfolding counter
  counter_below l = rw (lt-ltb j (lowest_digit_lem k) l)

  pub counter_full : full k d j ≡ true → counter k d j ≡ 0
  unfolding counter
  counter_full f = by_lt j (lowest_digit_lem k) (λ l. rw (lt-ltb j (lowest_digit_lem k) l)) (λ l. rw (le-ltb j (lowest_digit_lem k) l, f))

  pub counter_open : lowest_digit_lem k ≤ j → full k d j ≡ false → counter k d j ≡ d j
  unfolding counter
  counter_open l f = rw (le-ltb j (lowest_digit_lem k) l, f)

-- digit j alone decides whether it is full, and its counter
module _ (k : ℕ) (d e : ℕ → ℕ) (j : ℕ) (same : d j ≡ e j) where
  pub full_ext : full k d j ≡ full k e j
  unfolding full
  full_ext = rw same

  pub counter_ext : counter k d j ≡ counter k e j
  unfolding counter
  counter_ext = rw (full_ext, same)

-- ---- the end of a run

pub run_stops : (m k : ℕ) (d : ℕ → ℕ) (j : ℕ) → full k d j ≡ false → run_end_lem m k d j ≡ j
unfolding run_end_lem
run_stops zero k d j f = refl
run_stops (suc m) k d j f = rw f

pub run_goes : (m k : ℕ) (d : ℕ → ℕ) (j : ℕ) → full k d j ≡ true → run_end_lem (suc m) k d j ≡ run_end_lem m k d (suc j)
unfolding run_end_lem
run_goes m k d j f = rw f

-- the digits from j on to below x are full, and x ends them
pub run_to : (m k : ℕ) (d : ℕ → ℕ) (j x : ℕ) → j ≤ x → x ≤ j + m → ((i : ℕ) → j ≤ i → i < x → full k d i ≡ true) → (x < j + m → full k d x ≡ false) → run_end_lem m k d j ≡ x
unfolding run_end_lem
run_to zero k d j x a b all ends = omega arith
run_to (suc m) k d j x a b all ends =
    by_lt j x
    (λ l. rw (all j (le_refl j) l) (run_to m k d (suc j) x l (omega arith) (λ i c e. all i (omega arith) e) (λ z. ends (omega arith))))
    (λ l. let e : x ≡ j = omega arith in run_stops (suc m) k d j (rw e at (ends (omega arith))) ∙ sym e)

pub run_ext : (m k : ℕ) (d e : ℕ → ℕ) (j : ℕ) → ((i : ℕ) → j ≤ i → i < j + m → full k d i ≡ full k e i) → run_end_lem m k d j ≡ run_end_lem m k e j
unfolding run_end_lem
run_ext zero k d e j same = refl
run_ext (suc m) k d e j same =
    rw (same j (le_refl j) (omega arith), run_ext m k d e (suc j) (λ i l h. same i (omega arith) (omega arith)))

pub run_range : (m k : ℕ) (d : ℕ → ℕ) (j : ℕ) → (j ≤ run_end_lem m k d j) × (run_end_lem m k d j ≤ j + m)
unfolding run_end_lem
run_range zero k d j = omega arith
run_range (suc m) k d j =
    by_test (full k d j) (λ t. rw t (omega (arith, run_range m k d (suc j)))) (λ t. rw t (omega arith))

-- ---- the pointers

module _ (n k : ℕ) (d : ℕ → ℕ) where
  pub pointer_plain : (j : ℕ) → full k d j ≡ false → pointer n k d j ≡ j
  unfolding pointer begins
  pointer_plain j f = rw f

  -- inside a run
  pub pointer_inside : (j : ℕ) → j ≢ lowest_digit_lem k → full k d (j - 1) ≡ true → pointer n k d j ≡ j
  unfolding pointer begins
  pointer_inside j ne f = by_test (full k d j) (λ t. rw (t, ne_eqb j (lowest_digit_lem k) ne, f)) (λ t. pointer_plain j t)

  pub pointer_first : full k d (lowest_digit_lem k) ≡ true → pointer n k d (lowest_digit_lem k) ≡ run_end_lem (suc n - lowest_digit_lem k) k d (lowest_digit_lem k)
  unfolding pointer begins
  pointer_first f = rw (f, eq-eqb (lowest_digit_lem k) (lowest_digit_lem k) refl)

  -- behind a digit that is not full
  pub pointer_behind : (j : ℕ) → 1 ≤ j → full k d (j - 1) ≡ false → pointer n k d j ≡ run_end_lem (suc n - j) k d j
  unfolding pointer begins
  pointer_behind j a f =
      by_test (full k d j)
      (λ t. by_eq j (lowest_digit_lem k) (λ e. rw (t, eq-eqb j (lowest_digit_lem k) e)) (λ e. rw (t, ne_eqb j (lowest_digit_lem k) e, f)))
      (λ t. pointer_plain j t ∙ sym (run_stops (suc n - j) k d j t))

  pub pointer_end : pointer n k d (suc n) ≡ suc n
  unfolding pointer run_end_lem
  pointer_end = let z : suc n - suc n ≡ 0 = omega arith in rw z (same (begins k d (suc n)))
    where
      same : (b : Bool) → cond b (suc n) (suc n) ≡ suc n
      same true = refl
      same false = refl

-- digits that are full alike have the same pointers
pub pointer_ext : (n k : ℕ) (d e : ℕ → ℕ) (j : ℕ) → ((i : ℕ) → j ≤ suc i → i ≤ n → full k d i ≡ full k e i) → j ≤ suc n → pointer n k d j ≡ pointer n k e j
unfolding pointer begins
pointer_ext n k d e j same l =
    by_lt n j
    (λ g. let z : j ≡ suc n = omega arith in rw z (pointer_end n k d ∙ sym (pointer_end n k e)))
    (λ g. rw (same j (omega arith) g, same (j - 1) (omega arith) (omega arith), run_ext (suc n - j) k d e j (λ i a b. same i (omega arith) (omega arith))))

-- ---- the board of digits

module _ (n k : ℕ) (d : ℕ → ℕ) where
  pub counter_place : (j : ℕ) → 1 ≤ j → j ≤ n → place (counters n k d) j ≡ counter k d j
  unfolding counters
  counter_place j a b = at_row _ n (j - 1) (omega arith) ∙ ap (counter k d) (back j a)

  pub pointer_place : (j : ℕ) → 1 ≤ j → j ≤ suc n → place (pointers n k d) j ≡ pointer n k d j
  unfolding pointers
  pointer_place j a b = at_row _ (suc n) (j - 1) (omega arith) ∙ ap (pointer n k d) (back j a)

  pub counters_long : length (counters n k d) ≡ n
  unfolding counters
  counters_long = length_row _ n

  pub pointers_long : length (pointers n k d) ≡ suc n
  unfolding pointers
  pointers_long = length_row _ (suc n)

-- digits that agree have one board
module _ (n k : ℕ) (d e : ℕ → ℕ) (same : (j : ℕ) → 1 ≤ j → j ≤ n → d j ≡ e j) where
  pub counters_ext : counters n k d ≡ counters n k e
  unfolding counters
  counters_ext = row_ext _ _ n (λ i l. counter_ext k d e (suc i) (same (suc i) (omega arith) l))

  pub pointers_ext : pointers n k d ≡ pointers n k e
  unfolding pointers
  pointers_ext = row_ext _ _ (suc n) (λ i l. pointer_ext n k d e (suc i) alike (omega arith))
    where
      alike : {i : ℕ} (x : ℕ) → suc i ≤ suc x → x ≤ n → full k d x ≡ full k e x
      alike zero a b = full_below k d 0 (lowest_range k).0 ∙ sym (full_below k e 0 (lowest_range k).0)
      alike (suc x) a b = full_ext k d e (suc x) (same (suc x) (omega arith) b)
