-- One step of the board of a rank: it is not refused, its flip is the flip out of that rank, and it leaves the board of the next
-- rank. What it reads at s is x, the lowest digit that is not full, and what it writes at s, x and x + 1 is all that changes.
-- Assumes nothing.
use mathlib.Core.Path.{◌≡◌, sym, ap, ◌∙◌}
use mathlib.Core.Bool.{true, false}
use mathlib.Core.Logic.{◌≢◌, ◌↔◌}
use mathlib.Core.List.{List}
use Prim.Native.Nat.{ℕ, suc, ◌-◌, ◌*◌, ◌≤◌, ◌<◌}
use native.Mathlib.Omega.{arith}
use lib.ListN.{length, set, length-set}
use lib.Seq.{get_or-set_same, get_or-set_other, ext_get_or}
use borrow.Author.Tests.{eq-eqb, ne_eqb, lt-leb}
use Rattle.rows.specs.Row.{row}
use Rattle.rows.proofs.Cases.{by_eq, by_lt, opposite, in_range}
use Rattle.rows.proofs.Rows.{length_row, at_row, row_ext, set_row}
use Rattle.sizes.specs.declared.Fault.TheVariants.{Board}
use Rattle.sizes.specs.Refusal.{fine}
use Rattle.sizes.specs.Sizes.{weight}
use Rattle.sizes.proofs.Refusals.{faultless, last_faultless}
use Rattle.order.specs.Digits.{digit, flip_out, next_rank}
use Rattle.board.specs.Board.{place, lowest_digit_lem, counter, run_end_lem, pointer, counters, pointers, IsBoard}
use Rattle.step.specs.Step.{put, pointed, closes, step_flip, fills, counter_verdict, step_verdict, stepped_counters, stepped_pointers}
use Rattle.board.proofs.Runs.{back, lowest_range, run_range, pointer_plain, pointer_end, counter_place, pointer_place}
use Rattle.step.proofs.Turns.{Turning, s_low, points, counter_at, counter_filled, counter_more, counter_stays, pointer_lower, pointer_now_lower, pointer_far, pointer_next, pointer_joined, pointer_parted, pointer_own, pointer_next_stays, was_open, next_inside, next_closes, by_turning, turning_flip, turning_closes}

-- a row with three places written over, one after the other
three_written : (f g : ℕ → ℕ) (n a b c u v w : ℕ) → a < n → b < n → c < n → b ≢ c → w ≡ g c → v ≡ g b → (a ≢ b → a ≢ c → u ≡ g a) →
    ((i : ℕ) → i < n → i ≢ a → i ≢ b → i ≢ c → f i ≡ g i) → set (set (set (row f n) a u) b v) c w ≡ row g n
three_written f g n a b c u v w ha hb hc bc w_is v_is u_is rest =
    ext_get_or 0 zs (row g n) (zs_long ∙ sym (length_row g n))
    (λ i l. let h : i < n = omega (arith, zs_long) in
    by_eq i c (λ e. rw e (get_or-set_same ys c w 0 (omega (arith, ys_long)) ∙ w_is))
    (λ nc. get_or-set_other ys c i w 0 nc ∙ by_eq i b (λ e. rw e (get_or-set_same xs b v 0 (omega (arith, xs_long)) ∙ v_is))
    (λ nb. get_or-set_other xs b i v 0 nb ∙ by_eq i a (λ e. rw e (get_or-set_same (row f n) a u 0 (omega (arith, length_row f n)) ∙ u_is (λ z. nb (e ∙ z)) (λ z. nc (e ∙ z))))
    (λ na. get_or-set_other (row f n) a i u 0 na ∙ at_row f n i h ∙ rest i h na nb nc))) ∙ sym (at_row g n i h))
  where
    xs : List ℕ
    xs = set (row f n) a u

    ys : List ℕ
    ys = set xs b v

    zs : List ℕ
    zs = set ys c w

    xs_long : length xs ≡ n
    xs_long = length-set (row f n) a u ∙ length_row f n

    ys_long : length ys ≡ n
    ys_long = length-set xs b v ∙ xs_long

    zs_long : length zs ≡ n
    zs_long = length-set ys c w ∙ ys_long

module _ {n k r x : ℕ} {cs fs : List ℕ} (k_low : 1 ≤ k) (n_low : 1 ≤ n) (r_low : r < weight n k) (board : IsBoard n k r cs fs) (turns : Turning n k r x) where
  counter_of : (j : ℕ) → 1 ≤ j → j ≤ n → place cs j ≡ counter k (digit k r) j
  counter_of j a b = ap (λ ys. place ys j) board.counters_are ∙ counter_place n k _ j a b

  pointer_of : (j : ℕ) → 1 ≤ j → j ≤ suc n → place fs j ≡ pointer n k (digit k r) j
  pointer_of j a b = ap (λ ys. place ys j) board.pointers_are ∙ pointer_place n k _ j a b

  pub pointed_is : pointed k fs ≡ x
  unfolding pointed
  pointed_is = pointer_of (lowest_digit_lem k) (lowest_range k).0 (omega (arith, lowest_range k)) ∙ points k_low n_low r_low turns

  closes_not : x ≤ n → closes n k fs ≡ false
  unfolding closes
  closes_not inside = ne_eqb (pointed k fs) (suc n) (λ e. omega (arith, pointed_is))

  closes_so : x ≡ suc n → closes n k fs ≡ true
  unfolding closes
  closes_so e = eq-eqb (pointed k fs) (suc n) (pointed_is ∙ e)

  counter_is : x ≤ n → place cs x ≡ digit k r x
  counter_is inside = counter_of x turns.one inside ∙ counter_at k_low n_low r_low turns inside

  fills_so : x ≤ n → suc (digit k r x) ≡ k * x - 1 → fills k x cs ≡ true
  unfolding fills
  fills_so inside e = eq-eqb (suc (place cs x)) (k * x - 1) (ap suc (counter_is inside) ∙ e)

  fills_not : x ≤ n → suc (digit k r x) ≢ k * x - 1 → fills k x cs ≡ false
  unfolding fills
  fills_not inside e = ne_eqb (suc (place cs x)) (k * x - 1) (λ z. e (sym (ap suc (counter_is inside)) ∙ z))

  -- ---- it is not refused

  x_range : (lowest_digit_lem k ≤ pointed k fs) × (pointed k fs ≤ suc n)
  x_range = omega (arith, pointed_is, s_low k_low n_low r_low turns, turns.most)

  behind_range : x ≤ n → (suc x ≤ place fs (suc x)) × (place fs (suc x) ≤ suc n)
  behind_range inside =
      let e : place fs (suc x) ≡ run_end_lem (n - x) k (digit k r) (suc x) = pointer_of (suc x) (omega arith) (omega arith) ∙ pointer_next k_low n_low r_low turns inside in
      omega (arith, run_range (n - x) k (digit k r) (suc x))

  fine_inside : x ≤ n → fine ≡ counter_verdict n k x cs fs
  unfolding counter_verdict
  fine_inside inside =
      faultless Board (lt-leb (k * x - 1) (place cs x) (omega (arith, counter_is inside, turns.own inside)))
      (by_eq (suc (digit k r x)) (k * x - 1)
      (λ e. rw (fills_so inside e) (last_faultless Board (in_range (suc x) (suc n) (place fs (suc x)) (behind_range inside).0 (behind_range inside).1)))
      (λ e. rw (fills_not inside e)))

  pub never_refused : fine ≡ step_verdict n k cs fs
  unfolding step_verdict
  never_refused =
      faultless Board (in_range (lowest_digit_lem k) (suc n) (pointed k fs) x_range.0 x_range.1)
      (by_lt n x (λ g. rw (closes_so (omega (arith, turns.most)))) (λ g. rw (closes_not g, pointed_is) (fine_inside g)))

  -- ---- its flip

  pub step_flip_is : step_flip n k fs ≡ flip_out n k r
  unfolding step_flip
  step_flip_is =
      by_lt n x
      (λ g. let e : x ≡ suc n = omega (arith, turns.most) in rw (closes_so e) (sym (turning_closes n k r k_low n_low (rw e at turns))))
      (λ g. rw (closes_not g) (pointed_is ∙ sym (turning_flip n k r k_low n_low x turns g)))

  -- the round closes at the last rank
  pub closes_last : closes n k fs ≡ true → next_rank n k r ≡ 0
  closes_last t = by_lt n x (λ g. next_closes k_low n_low r_low turns (omega (arith, turns.most))) (λ g. absurd (opposite t (closes_not g)))

  pub last_closes : next_rank n k r ≡ 0 → closes n k fs ≡ true
  last_closes e = by_lt n x (λ g. closes_so (omega (arith, turns.most))) (λ g. absurd (omega (arith, next_inside k_low n_low r_low turns g)))

  -- ---- what it leaves

  counters_written : (v : ℕ) → x ≤ n → v ≡ counter k (digit k (next_rank n k r)) x → put cs x v ≡ counters n k (digit k (next_rank n k r))
  unfolding counters
  counters_written v inside v_is =
      ap (λ ys. set ys (x - 1) v) board.counters_are ∙
      set_row (λ i. counter k (digit k r) (suc i)) (λ i. counter k (digit k (next_rank n k r)) (suc i)) n (x - 1) v (omega (arith, turns.one))
      (v_is ∙ ap (counter k (digit k (next_rank n k r))) (sym (back x turns.one)))
      (λ i l ne. counter_stays k_low n_low r_low turns (suc i) (omega arith) l (λ e. ne (omega (arith, turns.one))))

  pub counters_after : stepped_counters n k cs fs ≡ counters n k (digit k (next_rank n k r))
  unfolding stepped_counters counters
  counters_after =
      by_lt n x
      (λ g. rw (closes_so (omega (arith, turns.most))) (board.counters_are ∙
      row_ext _ _ n (λ i l. counter_stays k_low n_low r_low turns (suc i) (omega arith) l (λ e. omega arith))))
      (λ g. by_eq (suc (digit k r x)) (k * x - 1)
      (λ e. rw (closes_not g, pointed_is, fills_so g e) (counters_written 0 g (sym (counter_filled k_low n_low r_low turns g e))))
      (λ e. rw (closes_not g, pointed_is, fills_not g e)
      (counters_written _ g (ap suc (counter_is g) ∙ sym (counter_more k_low n_low r_low turns g e)))))

  -- the places other than s, x and x + 1
  elsewhere : (i : ℕ) → i < suc n → i ≢ lowest_digit_lem k - 1 → i ≢ x - 1 → i ≢ x → pointer n k (digit k r) (suc i) ≡ pointer n k (digit k (next_rank n k r)) (suc i)
  elsewhere i l na nb nc =
      by_lt (suc i) x
      (λ g. pointer_lower k_low n_low r_low turns (suc i) (omega arith) g (λ e. na (omega (arith, lowest_range k))) ∙ sym (pointer_now_lower k_low n_low r_low turns (suc i) g))
      (λ g. by_lt n x
      (λ h. absurd (omega (arith, turns.one)))
      (λ h. sym (pointer_far k_low n_low r_low turns h (suc i) (omega (arith, turns.one)))))

  now_pointer : ℕ → ℕ
  now_pointer i = pointer n k (digit k (next_rank n k r)) (suc i)

  now_at : (j p : ℕ) → 1 ≤ j → pointer n k (digit k (next_rank n k r)) j ≡ p → p ≡ now_pointer (j - 1)
  now_at j p a e = unfold now_pointer in sym e ∙ ap (pointer n k (digit k (next_rank n k r))) (sym (back j a))

  -- f_s becomes s, and nothing else changes
  only_s : pointer n k (digit k (next_rank n k r)) (lowest_digit_lem k) ≡ lowest_digit_lem k →
      ((i : ℕ) → i < suc n → i ≢ lowest_digit_lem k - 1 → pointer n k (digit k r) (suc i) ≡ pointer n k (digit k (next_rank n k r)) (suc i)) →
      put fs (lowest_digit_lem k) (lowest_digit_lem k) ≡ pointers n k (digit k (next_rank n k r))
  unfolding now_pointer pointers
  only_s here rest =
      ap (λ ys. set ys (lowest_digit_lem k - 1) (lowest_digit_lem k)) board.pointers_are ∙
      set_row (λ i. pointer n k (digit k r) (suc i)) now_pointer (suc n) (lowest_digit_lem k - 1) (lowest_digit_lem k) (omega (arith, lowest_range k))
      (now_at (lowest_digit_lem k) _ (lowest_range k).0 here) rest

  pointers_closing : x ≡ suc n → put fs (lowest_digit_lem k) (lowest_digit_lem k) ≡ pointers n k (digit k (next_rank n k r))
  pointers_closing e =
      only_s
      (by_lt (lowest_digit_lem k) x (pointer_now_lower k_low n_low r_low turns (lowest_digit_lem k))
      (λ g. let z : lowest_digit_lem k ≡ suc n = omega (arith, s_low k_low n_low r_low turns) in rw z (pointer_end n k _)))
      (λ i l ne. by_lt (suc i) x
      (λ g. pointer_lower k_low n_low r_low turns (suc i) (omega arith) g (λ q. ne (omega (arith, lowest_range k))) ∙ sym (pointer_now_lower k_low n_low r_low turns (suc i) g))
      (λ g. let z : i ≡ n = omega arith in rw z (pointer_end n k (digit k r) ∙ sym (pointer_end n k _))))

  pointers_open : x ≤ n → suc (digit k r x) ≢ k * x - 1 → put fs (lowest_digit_lem k) (lowest_digit_lem k) ≡ pointers n k (digit k (next_rank n k r))
  pointers_open inside e =
      only_s
      (by_lt (lowest_digit_lem k) x (pointer_now_lower k_low n_low r_low turns (lowest_digit_lem k))
      (λ g. let z : lowest_digit_lem k ≡ x = omega (arith, s_low k_low n_low r_low turns) in rw z (pointer_own k_low n_low r_low turns inside e)))
      (λ i l ne. by_eq i (x - 1)
      (λ z. let y : suc i ≡ x = omega (arith, turns.one) in
      rw y (pointer_plain n k (digit k r) x (was_open k_low n_low r_low turns inside) ∙ sym (pointer_own k_low n_low r_low turns inside e)))
      (λ nb. by_eq i x (λ z. rw z (sym (pointer_next_stays k_low n_low r_low turns inside e))) (λ nc. elsewhere i l ne nb nc)))

  pointers_filled : x ≤ n → suc (digit k r x) ≡ k * x - 1 →
      put (put (put fs (lowest_digit_lem k) (lowest_digit_lem k)) x (place fs (suc x))) (suc x) (suc x) ≡ pointers n k (digit k (next_rank n k r))
  unfolding now_pointer pointers
  pointers_filled inside e =
      let one = turns.one in
      let c_is : suc x - 1 ≡ x = omega arith in
      ap (λ ys. put (put (put ys (lowest_digit_lem k) (lowest_digit_lem k)) x (place fs (suc x))) (suc x) (suc x)) board.pointers_are ∙
      three_written (λ i. pointer n k (digit k r) (suc i)) now_pointer (suc n) (lowest_digit_lem k - 1) (x - 1) (suc x - 1) (lowest_digit_lem k) (place fs (suc x)) (suc x)
      (omega (arith, lowest_range k)) (omega arith) (omega arith) (λ z. omega arith)
      (now_at (suc x) (suc x) (omega arith) (pointer_parted k_low n_low r_low turns inside e))
      (now_at x (place fs (suc x)) one (pointer_joined k_low n_low r_low turns inside e ∙ sym (pointer_of (suc x) (omega arith) (omega arith))))
      (λ ab ac. now_at (lowest_digit_lem k) _ (lowest_range k).0
      (pointer_now_lower k_low n_low r_low turns (lowest_digit_lem k) (below_x ab)))
      (λ i l na nb nc. elsewhere i l na nb (λ z. nc (z ∙ sym c_is)))
    where
      below_x : lowest_digit_lem k - 1 ≢ x - 1 → lowest_digit_lem k < x
      below_x ne = by_lt (lowest_digit_lem k) x (λ l. l) (λ l. let z : lowest_digit_lem k ≡ x = omega (arith, s_low k_low n_low r_low turns) in absurd (ne (ap (λ y. y - 1) z)))

  pub pointers_after : stepped_pointers n k cs fs ≡ pointers n k (digit k (next_rank n k r))
  unfolding stepped_pointers
  pointers_after =
      by_lt n x
      (λ g. let e : x ≡ suc n = omega (arith, turns.most) in rw (closes_so e) (pointers_closing e))
      (λ g. by_eq (suc (digit k r x)) (k * x - 1)
      (λ e. rw (closes_not g, pointed_is, fills_so g e) (pointers_filled g e))
      (λ e. rw (closes_not g, pointed_is, fills_not g e) (pointers_open g e)))

-- ---- for every rank

module _ {n k r : ℕ} {cs fs : List ℕ} (k_low : 1 ≤ k) (n_low : 1 ≤ n) (r_low : r < weight n k) (board : IsBoard n k r cs fs) where
  -- the step leaves the board of the next rank
  pub step_board : IsBoard n k (next_rank n k r) (stepped_counters n k cs fs) (stepped_pointers n k cs fs)
  step_board = by_turning n k r k_low n_low (λ x turns. record {
    counters_are = counters_after k_low n_low r_low board turns;
    pointers_are = pointers_after k_low n_low r_low board turns;
  })

  -- it is never refused
  pub step_fine : fine ≡ step_verdict n k cs fs
  step_fine = by_turning n k r k_low n_low (λ x turns. never_refused k_low n_low r_low board turns)

  -- and its flip is the flip out of the rank
  pub step_flip_lem : step_flip n k fs ≡ flip_out n k r
  step_flip_lem = by_turning n k r k_low n_low (λ x turns. step_flip_is k_low n_low r_low board turns)

  -- it says that the round closed exactly where the next rank is 0
  pub step_closes : (closes n k fs ≡ true) ↔ (next_rank n k r ≡ 0)
  step_closes = by_turning n k r k_low n_low (λ x turns. (closes_last k_low n_low r_low board turns, last_closes k_low n_low r_low board turns))
