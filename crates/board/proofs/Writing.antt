-- The laws of the board as the code makes it. The digits of a rank are taken off one by one; a digit points elsewhere only where
-- the one before it is not full, and where a digit is not full the run from it on ends at once. Assumes nothing.
use mathlib.Core.Path.{◌≡◌, refl, sym, ap, ◌∙◌}
use mathlib.Core.Bool.{Bool, true, false, cond}
use mathlib.Core.List.{List}
use Prim.Native.Nat.{ℕ, suc, ◌+◌, ◌-◌, ◌*◌, ◌/◌, ◌%◌, ◌≤◌, ◌<◌}
use native.Mathlib.Nat.{div-one, div-div-eq-div-mul, mul_comm}
use native.Mathlib.Numerals.{add-one}
use native.Mathlib.Omega.{arith}
use lib.ListN.{length, set}
use Rattle.rows.specs.Row.{at, front}
use Rattle.rows.proofs.Cases.{by_test, opposite}
use Rattle.rows.proofs.Rows.{read, begun, stored, written_over}
use Rattle.sizes.specs.Sizes.{weight, Permitted}
use Rattle.sizes.proofs.Weights.{weight_zero, weight_suc}
use Rattle.rows.specs.Copy.{blank}
use Rattle.order.specs.Digits.{digit}
use Rattle.board.specs.Board.{place, full, counter, run_end_lem, pointer, counters, pointers, IsBoard}
use Rattle.board.proofs.Runs.{back, lowest_range, full_below, full_ext, counter_ext, run_stops, run_goes, pointer_inside, pointer_behind, counters_ext, pointers_ext}

-- ---- digits taken off

-- no digit is taken off yet
pub none_taken : (k r : ℕ) → r ≡ r / weight 0 k
none_taken k r = rw weight_zero (sym (div-one r))

-- one more is
module _ (k r i : ℕ) {above : ℕ} (above_is : above ≡ r / weight i k) where
  pub digit_taken : above % (k * (i + 1)) ≡ digit k r (suc i)
  unfolding digit
  digit_taken = rw (add-one, above_is)

  pub above_taken : above / (k * (i + 1)) ≡ r / weight (i + 1) k
  above_taken =
      rw (add-one, above_is) (div-div-eq-div-mul r (weight i k) (k * suc i) ∙ ap (λ x. r / x) (mul_comm (weight i k) (k * suc i) ∙ sym (weight_suc i k)))

-- digit i + 1 of a row
module _ (k : ℕ) (ds : List ℕ) (i : ℕ) where
  full_at : full k (λ _. at ds i) (i + 1) ≡ full k (place ds) (suc i)
  full_at = rw add-one (full_ext k (λ _. at ds i) (place ds) (suc i) (ap (at ds) (omega arith)))

  pub counter_at : counter k (λ _. at ds i) (i + 1) ≡ counter k (place ds) (suc i)
  counter_at = rw add-one (counter_ext k (λ _. at ds i) (place ds) (suc i) (ap (at ds) (omega arith)))

-- ---- the end of a run

-- it has come from j to e
pub record Running (n k : ℕ) (ds : List ℕ) (j e : ℕ) : Type 0 where
  pub low : 1 ≤ e
  pub high : e ≤ suc n
  pub same : run_end_lem (suc n - j) k (place ds) j ≡ run_end_lem (suc n - e) k (place ds) e

-- it goes on where digit j is full
pub run_goes_on : (n k : ℕ) (d : ℕ → ℕ) (j : ℕ) → j ≤ n → full k d j ≡ true → run_end_lem (suc n - j) k d j ≡ run_end_lem (suc n - suc j) k d (suc j)
run_goes_on n k d j l t =
    let e : suc n - j ≡ suc (n - j) = omega arith in
    let f : suc n - suc j ≡ n - j = omega arith in
    ap (λ m. run_end_lem m k d j) e ∙ run_goes (n - j) k d j t ∙ sym (ap (λ m. run_end_lem m k d (suc j)) f)

module _ {n k j e : ℕ} {ds : List ℕ} (run : Running n k ds j e) {b : Bool} (told : b ≡ full k (λ _. at ds (e - 1)) e) where
  full_there : full k (place ds) e ≡ b
  full_there = full_ext k (place ds) (λ _. at ds (e - 1)) e refl ∙ sym told

  pub run_stopped : b ≡ false → (e ≡ run_end_lem (suc n - j) k (place ds) j) × (e ≤ suc n)
  run_stopped f = (sym (run.same ∙ run_stops (suc n - e) k (place ds) e (full_there ∙ f)), run.high)

  pub running_on : e ≤ n → b ≡ true → Running n k ds j (e + 1)
  running_on l t = record {
    low = omega arith;
    high = omega arith;
    same = rw add-one (run.same ∙ run_goes_on n k (place ds) e l (full_there ∙ t));
  }

-- there is no digit left
pub run_reached : {n k : ℕ} {ds : List ℕ} {j e : ℕ} → Running n k ds j e → n < e → (n + 1 ≡ run_end_lem (suc n - j) k (place ds) j) × (n + 1 ≤ suc n)
unfolding run_end_lem
run_reached {n} {k} {ds} {j} {e} run l =
    let none : suc n - e ≡ 0 = omega (arith, run.high) in
    let all : n + 1 ≡ e = omega (arith, run.high) in
    (all ∙ sym (run.same ∙ ap (λ m. run_end_lem m k (place ds) e) none), omega arith)

-- ---- the pointers

pub pointer_is : (n k : ℕ) (d : ℕ → ℕ) (i : ℕ) → cond (full k d i) (suc i) (run_end_lem (suc n - suc i) k d (suc i)) ≡ pointer n k d (suc i)
pointer_is n k d i =
    let e : suc i - 1 ≡ i = omega arith in
    by_test (full k d i)
    (λ t. rw t (sym (pointer_inside n k d (suc i) (λ s. opposite t (full_below k d i (omega arith))) (rw e t))))
    (λ f. rw f (sym (pointer_behind n k d (suc i) (omega arith) (rw e f))))

-- the first i pointers are made, and it is known whether digit i is full
pub record Pointing (n k : ℕ) (ds made : List ℕ) (within : Bool) (i : ℕ) : Type 0 where
  pub known : within ≡ full k (place ds) i
  pub made_is : made ≡ front (λ i. pointer n k (place ds) (suc i)) i blank

pub pointing_first : {n k : ℕ} {ds : List ℕ} → Pointing n k ds blank false 0
pointing_first {k} {ds} = record { known = sym (full_below k (place ds) 0 (lowest_range k).0); made_is = begun _ blank }

pub pointing_on : {n k : ℕ} {ds : List ℕ} {made : List ℕ} {within : Bool} {i f : ℕ} {b : Bool} → Permitted n k → Pointing n k ds made within i → i ≤ n →
    f ≡ cond within (i + 1) (run_end_lem (suc n - (i + 1)) k (place ds) (i + 1)) → b ≡ full k (λ _. at ds i) (i + 1) → Pointing n k ds (set made i f) b (i + 1)
pointing_on {n} {k} {ds} {made} {within} {i} {f} sizes done l f_is told = record {
  known = told ∙ full_at k ds i ∙ rw add-one;
  made_is =
      let to : f ≡ cond within (suc i) (run_end_lem (suc n - suc i) k (place ds) (suc i)) = rw add-one at f_is in
      stored _ i blank done.made_is (omega (arith, sizes.n_high))
      (to ∙ ap (λ w. cond w (suc i) (run_end_lem (suc n - suc i) k (place ds) (suc i))) done.known ∙ pointer_is n k (place ds) i);
}

-- ---- the board

-- rows by value that were made of the digits, stored into two buffers
module _ (n k : ℕ) (d : ℕ → ℕ) (xs : List ℕ) {copy ys : List ℕ} where
  pub counters_stored : copy ≡ front (λ i. counter k d (suc i)) n blank → ys ≡ front (at copy) n xs → length xs ≡ n → ys ≡ counters n k d
  unfolding counters
  counters_stored copy_is ys_is same = written_over _ n blank xs copy_is ys_is same

  pub pointers_stored : copy ≡ front (λ i. pointer n k d (suc i)) (suc n) blank → ys ≡ front (at copy) (n + 1) xs → length xs ≡ suc n → ys ≡ pointers n k d
  unfolding pointers
  pointers_stored copy_is ys_is same = written_over _ (suc n) blank xs copy_is (rw add-one at ys_is) same

-- what a row by value has at place j
pub digit_at : (f : ℕ → ℕ) {n : ℕ} {ds : List ℕ} → ds ≡ front (λ i. f (suc i)) n blank → (j : ℕ) → 1 ≤ j → j ≤ n → place ds j ≡ f j
digit_at f {n} ds_is j a b = read _ n blank (j - 1) ds_is (omega arith) ∙ ap f (back j a)

-- the board of digits that are those of a rank is its board
pub is_board : {n k r : ℕ} {d : ℕ → ℕ} {cs fs : List ℕ} → ((j : ℕ) → 1 ≤ j → j ≤ n → d j ≡ digit k r j) → cs ≡ counters n k d → fs ≡ pointers n k d → IsBoard n k r cs fs
is_board {n} {k} {r} {d} same cs_are fs_are =
    record { counters_are = cs_are ∙ counters_ext n k d (digit k r) same; pointers_are = fs_are ∙ pointers_ext n k d (digit k r) same }
