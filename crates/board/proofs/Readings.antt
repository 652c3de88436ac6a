-- The whole reading of a board. Going up, the pointers say of each place where the run ends in which it stands, so on the board of
-- digits that are in their ranges these digits are read off again. Hence no two ranks have one board; and where the board of what
-- was read is not the one that was lent, that is no rank's board. Assumes nothing.
use mathlib.Core.Path.{◌≡◌, refl, sym, ap, ◌∙◌}
use mathlib.Core.Bool.{Bool, true, false, not}
use mathlib.Core.Logic.{◌≢◌}
use mathlib.Core.List.{List, ◌++◌}
use Prim.Native.Nat.{ℕ, zero, suc, ◌+◌, ◌-◌, ◌*◌, ◌≤◌, ◌<◌}
use native.Mathlib.Nat.{le_refl, mul-pos}
use native.Mathlib.Numerals.{add-one}
use native.Mathlib.Omega.{arith}
use lib.ListN.{length, set, take, drop}
use lib.Seq.{take-append_seam}
use borrow.Author.Tests.{eqb-true, not-false}
use Rattle.std.proofs.lemmas.Bool.{not-true}
use Rattle.std.proofs.lemmas.Slice.Eq.{bytes_eq-Decides}
use Rattle.std.specs.Str.{bytes_eq}
use Rattle.rows.specs.Row.{at, row, front}
use Rattle.rows.specs.Search.{if_lt}
use Rattle.rows.proofs.Cases.{by_lt, by_eq, by_test, opposite, if_lt_lem, if_ge, if_le}
use Rattle.rows.proofs.Rows.{length_row, begun, stored}
use Rattle.std.proofs.Common.{Err, Ok, Result}
use Rattle.sizes.specs.declared.Fault.TheVariants.{Board}
use Rattle.sizes.specs.declared.Refusal.{Refusal}
use Rattle.sizes.specs.Refusal.{fine, first, refused_if, number_of, place_of}
use Rattle.sizes.proofs.Refusals.{number_low, Small, small_first}
use Rattle.sizes.specs.Sizes.{weight, Permitted, most_arrangements}
use Rattle.sizes.proofs.Weights.{weight_zero, weight_mono, one_more}
use Rattle.rows.specs.Copy.{blank}
use Rattle.arrangement.specs.Check.{buffers_verdict}
use Rattle.arrangement.proofs.Validity.{fit, fit_fine, small_buffers}
use Rattle.order.specs.Digits.{digit, of_digits}
use Rattle.order.proofs.Digits.{digit_lt, rank_of_digits, of_digits_lt, digit_of_digits}
use Rattle.board.specs.Board.{place, lowest_digit_lem, full, counter, run_end_lem, pointer, counters, pointers, IsBoard}
use Rattle.board.specs.Asked.{LentBoard, DigitsAsked}
use Rattle.board.specs.Read.{NoBoard, Reads, verdict_of, end_read, digit_read}
use Rattle.board.proofs.Runs.{lowest_one, lowest_more, lowest_range, full_below, full_here, counter_below, counter_open, run_stops, run_range, pointer_plain, pointer_inside, pointer_behind, counter_place, pointer_place, counters_long, pointers_long, counters_ext, pointers_ext}
use Rattle.board.proofs.Writing.{run_goes_on, digit_at, is_board}

-- ---- digits

digit_range : (k r : ℕ) → 1 ≤ k → (j : ℕ) → 1 ≤ j → digit k r j < k * j
digit_range k r k_low zero a = absurd (omega arith)
digit_range k r k_low (suc m) a = digit_lt m k r k_low

of_digits_ext : (n k : ℕ) (d e : ℕ → ℕ) → ((j : ℕ) → 1 ≤ j → j ≤ n → d j ≡ e j) → of_digits n k d ≡ of_digits n k e
unfolding of_digits
of_digits_ext zero k d e same = refl
of_digits_ext (suc m) k d e same = rw (same (suc m) (omega arith) (omega arith), of_digits_ext m k d e (λ j a b. same j a (omega arith)))

-- ---- the board of digits in their ranges

module _ (n k : ℕ) (d : ℕ → ℕ) (k_low : 1 ≤ k) (each : (j : ℕ) → 1 ≤ j → j ≤ n → d j < k * j) where
  -- what the pointers up to j say of digit j: the end of its run where it is full, and nothing behind it where it is not
  record Told (j : ℕ) : Type 0 where
    within : full k d j ≡ true → end_read (pointers n k d) j ≡ run_end_lem (suc n - j) k d j
    outside : full k d j ≡ false → end_read (pointers n k d) j ≤ j

  pointer_there : (i : ℕ) → i < n → at (pointers n k d) i ≡ pointer n k d (suc i)
  pointer_there i l = let e : suc i - 1 ≡ i = omega arith in rw e at (pointer_place n k d (suc i) (omega arith) (omega arith))

  -- a place that points to itself says nothing new
  stays : (i : ℕ) → i < n → pointer n k d (suc i) ≡ suc i → end_read (pointers n k d) (suc i) ≡ end_read (pointers n k d) i
  unfolding end_read
  stays i l e = if_ge _ _ (omega (arith, pointer_there i l))

  -- a run from place i + 1 on has an end behind it
  leads : (i : ℕ) → i < n → pointer n k d (suc i) ≡ run_end_lem (suc n - suc i) k d (suc i) → full k d (suc i) ≡ true →
      end_read (pointers n k d) (suc i) ≡ run_end_lem (suc n - suc i) k d (suc i)
  unfolding end_read
  leads i l e t =
      let there = pointer_there i l ∙ e in
      if_lt_lem _ _ (omega (arith, there, run_goes_on n k d (suc i) l t, run_range (suc n - suc (suc i)) k d (suc (suc i)))) ∙ there

  -- one place more
  told_next : (i : ℕ) → i < n → Told i → Told (suc i)
  told_next i l before = record { within = inside; outside = apart }
    where
      e : suc i - 1 ≡ i
      e = omega arith

      inside : full k d (suc i) ≡ true → end_read (pointers n k d) (suc i) ≡ run_end_lem (suc n - suc i) k d (suc i)
      inside t =
          by_test (full k d i)
          (λ u. stays i l (pointer_inside n k d (suc i) (λ s. opposite u (full_below k d i (omega arith))) (rw e u)) ∙ before.within u ∙ run_goes_on n k d i (omega arith) u)
          (λ u. leads i l (pointer_behind n k d (suc i) (omega arith) (rw e u)) t)

      apart : full k d (suc i) ≡ false → end_read (pointers n k d) (suc i) ≤ suc i
      apart f =
          let same = stays i l (pointer_plain n k d (suc i) f) in
          by_test (full k d i)
          (λ u. omega (arith, same, before.within u ∙ run_goes_on n k d i (omega arith) u ∙ run_stops (suc n - suc i) k d (suc i) f))
          (λ u. omega (arith, same, before.outside u))

  told : (j : ℕ) → j ≤ n → Told j
  unfolding end_read
  told zero l = record {
    within = λ t. absurd (opposite t (full_below k d 0 (lowest_range k).0));
    outside = λ f. omega arith;
  }
  told (suc i) l = told_next i l (told i (omega arith))

  -- a digit below s is 0
  below_lowest : (j : ℕ) → 1 ≤ j → j ≤ n → j < lowest_digit_lem k → d j ≡ 0
  below_lowest j a l low =
      by_eq k 1
      (λ e. let one : j ≡ 1 = omega (arith, ap lowest_digit_lem e ∙ lowest_one) in
      let room : k * j ≡ 1 = rw (e, one) (omega arith) in omega (arith, each j a l))
      (λ ne. absurd (omega (arith, lowest_more k ne)))

  -- so the digits are read off again
  pub digits_read : (j : ℕ) → 1 ≤ j → j ≤ n → digit_read k (counters n k d) (pointers n k d) j ≡ d j
  unfolding digit_read
  digits_read j a l = by_test (full k d j) inside open_digit_lem
    where
      inside : full k d j ≡ true → if_lt j (end_read (pointers n k d) j) (k * j - 1) (if_lt (k * j - 1) (place (counters n k d) j) 0 (place (counters n k d) j)) ≡ d j
      inside t =
          let s_is : lowest_digit_lem k ≤ j = by_lt j (lowest_digit_lem k) (λ low. absurd (opposite t (full_below k d j low))) (λ high. high) in
          let goes = run_goes_on n k d j l t in
          if_lt_lem _ _ (omega (arith, (told j l).within t, goes, run_range (suc n - suc j) k d (suc j))) ∙
          sym (eqb-true (d j) (k * j - 1) (sym (full_here k d j s_is) ∙ t))

      counted : full k d j ≡ false → place (counters n k d) j ≡ d j
      counted f = counter_place n k d j a l ∙
          by_lt j (lowest_digit_lem k) (λ low. counter_below k d j low ∙ sym (below_lowest j a l low)) (λ high. counter_open k d j high f)

      open_digit_lem : full k d j ≡ false → if_lt j (end_read (pointers n k d) j) (k * j - 1) (if_lt (k * j - 1) (place (counters n k d) j) 0 (place (counters n k d) j)) ≡ d j
      open_digit_lem f =
          if_ge _ _ ((told j l).outside f) ∙ if_ge _ _ (omega (arith, counted f, each j a l)) ∙ counted f

-- ---- the board of a rank

module _ {n k : ℕ} {cs fs : List ℕ} (k_low : 1 ≤ k) where
  -- the digits of the rank are read off it
  pub rank_read_lem : {r : ℕ} → IsBoard n k r cs fs → (j : ℕ) → 1 ≤ j → j ≤ n → digit_read k cs fs j ≡ digit k r j
  rank_read_lem {r} board j a l = rw (board.counters_are, board.pointers_are) (digits_read n k (digit k r) k_low (λ i x y. digit_range k r k_low i x) j a l)

  -- no two ranks have one board
  pub one_board : {r q : ℕ} → r < weight n k → q < weight n k → IsBoard n k r cs fs → IsBoard n k q cs fs → r ≡ q
  one_board {r} {q} r_low q_low a b =
      sym (rank_of_digits k k_low n r r_low) ∙ of_digits_ext n k (digit k r) (digit k q) (λ j x y. sym (rank_read_lem a j x y) ∙ rank_read_lem b j x y) ∙ rank_of_digits k k_low n q q_low

-- ---- what is read off any board

read_range : (k : ℕ) (cs fs : List ℕ) (j : ℕ) → 1 ≤ k → 1 ≤ j → digit_read k cs fs j < k * j
unfolding digit_read
read_range k cs fs j k_low a =
    let most : if_lt (k * j - 1) (place cs j) 0 (place cs j) ≤ k * j - 1 =
    by_lt (k * j - 1) (place cs j) (λ l. omega (arith, if_lt_lem 0 (place cs j) l)) (λ l. omega (arith, if_ge {a = k * j - 1} 0 (place cs j) l)) in
    omega (arith, if_le j (end_read fs j) (le_refl (k * j - 1)) most, mul-pos k_low a)

-- ds is what the code has read off two buffers
pub record ReadOff (n k : ℕ) (cs fs ds : List ℕ) : Type 0 where
  pub lent : LentBoard n k cs fs
  pub read_is : ds ≡ front (λ i. digit_read k cs fs (suc i)) n blank

module _ {n k : ℕ} {cs fs ds : List ℕ} (off : ReadOff n k cs fs ds) where
  each_read : (j : ℕ) → 1 ≤ j → j ≤ n → place ds j ≡ digit_read k cs fs j
  each_read = digit_at (digit_read k cs fs) off.read_is

  pub digits_asked : DigitsAsked n k ds
  digits_asked = record { each = λ j a l. omega (arith, each_read j a l, read_range k cs fs j off.lent.sizes.k_low a) }

  fits : buffers_verdict n k cs 1 fs ≡ fine
  fits = sym (fit_fine n k cs 1 fs (record { sizes = off.lent.sizes; one = off.lent.counters; two = off.lent.pointers ∙ sym (add-one n) }))

  -- their board is the one that was lent: it is that of the rank for which they stand
  pub board_found : {r : ℕ} → cs ≡ counters n k (place ds) → fs ≡ pointers n k (place ds) → r ≡ of_digits n k (place ds) → Reads n k cs fs (Ok r)
  unfolding Reads
  board_found {r} cs_are fs_are r_is =
      let k_low = off.lent.sizes.k_low in
      let each = digits_asked.each in (
        fits,
        rw r_is (of_digits_lt k k_low (place ds) n each),
        is_board (λ j a l. sym (ap (λ q. digit k q j) r_is ∙ digit_of_digits k k_low (place ds) n each j a l)) cs_are fs_are,
      )

  -- it is not: there is no such rank, since its digits would have been read
  same_digits : {r : ℕ} → IsBoard n k r cs fs → (j : ℕ) → 1 ≤ j → j ≤ n → digit k r j ≡ place ds j
  same_digits board j a l = sym (each_read j a l ∙ rank_read_lem off.lent.sizes.k_low board j a l)

  unread : {differs : Bool} {refusal : Refusal} → Err refusal ≡ refused_if Board differs → (differs ≡ true → NoBoard n k cs fs) → Reads n k cs fs (Err refusal)
  unfolding Reads first refused_if
  unread {differs = true} e none = rw fits (e, λ _. none refl)
  unread {differs = false} e none = absurd (let y : ◌≡◌ {A = ℕ} 0 1 = cc in omega arith)

  module _ {differs : Bool} {refusal : Refusal} (e : Err refusal ≡ refused_if Board differs) where
    pub counters_differ : (differs ≡ true → cs ≢ counters n k (place ds)) → Reads n k cs fs (Err refusal)
    counters_differ ne = unread e (λ t. record { none = λ r l board. ne t (board.counters_are ∙ counters_ext n k (digit k r) (place ds) (same_digits board)) })

    pub pointers_differ : (differs ≡ true → fs ≢ pointers n k (place ds)) → Reads n k cs fs (Err refusal)
    pointers_differ ne = unread e (λ t. record { none = λ r l board. ne t (board.pointers_are ∙ pointers_ext n k (digit k r) (place ds) (same_digits board)) })

-- buffers that are refused are not read
pub buffers_refused : (n k : ℕ) (cs fs : List ℕ) {refusal : Refusal} → Err refusal ≡ buffers_verdict n k cs 1 fs → Reads n k cs fs (Err refusal)
unfolding Reads first
buffers_refused n k cs fs {refusal} e =
    (rw (← e), λ fits. let z : Err refusal ≡ fine = e ∙ fits in let y : ◌≡◌ {A = ℕ} 0 1 = cc in absurd (omega arith))

-- ---- one reading

-- the board of a rank is read as that rank
pub board_read : {n k r : ℕ} {cs fs : List ℕ} → Permitted n k → r < weight n k → IsBoard n k r cs fs → Reads n k cs fs (Ok r)
unfolding Reads
board_read {n} {k} {r} {cs} {fs} sizes r_low board = (
  sym (fit_fine n k cs 1 fs (record {
    sizes = sizes;
    one = ap length board.counters_are ∙ counters_long n k _;
    two = ap length board.pointers_are ∙ pointers_long n k _ ∙ sym (add-one n);
  })),
  r_low,
  board,
)

-- what is read is right, and it is the only answer
pub one_reading : (n k : ℕ) (cs fs : List ℕ) (v w : Result ℕ Refusal) → Reads n k cs fs v → Reads n k cs fs w → v ≡ w
unfolding Reads
one_reading n k cs fs (Ok r) (Ok q) a b =
    ap (λ r. Ok r) (one_board (fit n k cs 1 fs a.0).sizes.k_low a.1 b.1 a.2 b.2)
one_reading n k cs fs (Ok r) (Err refusal) a b = absurd ((b.1 a.0).none r a.1 a.2)
one_reading n k cs fs (Err refusal) (Ok r) a b = absurd ((a.1 b.0).none r b.1 b.2)
one_reading n k cs fs (Err refusal) (Err refusal') a b = let same = a.0 ∙ sym b.0 in cc

-- ---- a loop that reads the digits off

-- those of the first i places are read, and e is the end that their pointers say
pub record ReadingOff (n k : ℕ) (cs fs ds : List ℕ) (e i : ℕ) : Type 0 where
  pub end_is : e ≡ end_read fs i
  pub read_is : ds ≡ front (λ i. digit_read k cs fs (suc i)) i blank

pub reading_first : {n k : ℕ} {cs fs : List ℕ} → ReadingOff n k cs fs blank 0 0
unfolding end_read
reading_first = record { end_is = refl; read_is = begun _ blank }

pub reading_on : {n k : ℕ} {cs fs ds : List ℕ} {e x i f : ℕ} → Permitted n k → ReadingOff n k cs fs ds e i → i < n →
    x ≡ if_lt (i + 1) (at fs i) (at fs i) e → f ≡ if_lt (i + 1) x (k * (i + 1) - 1) (if_lt (k * (i + 1) - 1) (at cs i) 0 (at cs i)) →
    ReadingOff n k cs fs (set ds i f) x (i + 1)
unfolding end_read digit_read
reading_on {k} {cs} {fs} {x} {i} sizes done l x_is f_is =
    let there : suc i - 1 ≡ i = omega arith in
    let ends : x ≡ end_read fs (suc i) = (rw add-one at x_is) ∙ ap (if_lt (suc i) (at fs i) (at fs i)) done.end_is in
    record {
      end_is = ends ∙ rw add-one;
      read_is = stored _ i blank done.read_is (omega (arith, sizes.n_high)) ((rw add-one at f_is) ∙ rw (ends, there));
    }

-- ---- a loop that works the rank out

-- of the first i digits
pub record Ranking (n k : ℕ) (ds : List ℕ) (r w i : ℕ) : Type 0 where
  pub rank_is : r ≡ of_digits i k (place ds)
  pub weight_is : w ≡ weight i k

pub ranking_first : {n k : ℕ} {ds : List ℕ} → Ranking n k ds 0 1 0
unfolding of_digits
ranking_first {k} = record { rank_is = refl; weight_is = sym (weight_zero k) }

module _ {n k : ℕ} {ds : List ℕ} {r w i : ℕ} (sizes : Permitted n k) (asked : DigitsAsked n k ds) (done : Ranking n k ds r w i) (l : i < n) where
  next_digit : at ds i ≡ place ds (suc i)
  next_digit = ap (at ds) (omega arith)

  ranked : r + at ds i * w ≡ of_digits (suc i) k (place ds)
  unfolding of_digits
  ranked = rw (next_digit, done.weight_is, done.rank_is) (omega arith)

  -- no product and no sum wraps
  pub rank_fits : (at ds i * w ≤ most_arrangements) × (r + at ds i * w ≤ most_arrangements)
  rank_fits =
      let below = of_digits_lt k sizes.k_low (place ds) (suc i) (λ j a b. asked.each j a (omega arith)) in
      omega (arith, ranked, weight_mono (suc i) n k sizes.k_low l, sizes.few)

  pub ranking_on : Ranking n k ds (r + at ds i * w) (w * (k * (i + 1))) (i + 1)
  ranking_on = record { rank_is = ranked ∙ rw add-one; weight_is = one_more i k done.weight_is }

-- ---- a row held to another

made_there : (f : ℕ → ℕ) (n : ℕ) {made : List ℕ} → made ≡ front f n blank → take n made ≡ row f n
unfolding front
made_there f n made_is = rw made_is (ap (λ m. take m (row f n ++ drop n blank)) (sym (length_row f n)) ∙ take-append_seam (row f n) (drop n blank))

module _ (f : ℕ → ℕ) (n : ℕ) {made xs : List ℕ} {differs : Bool} (made_is : made ≡ front f n blank) (told : differs ≡ not (bytes_eq (take n made) xs)) where
  row_held : differs ≡ false → xs ≡ row f n
  row_held f_is = sym ((bytes_eq-Decides _ _).0 (not-false _ (sym told ∙ f_is))) ∙ made_there f n made_is

  row_differs : differs ≡ true → xs ≢ row f n
  row_differs t e = opposite ((bytes_eq-Decides _ _).1 (made_there f n made_is ∙ sym e)) (not-true _ (sym told ∙ t))

-- the counters, and the pointers, of digits
module _ (n k : ℕ) (d : ℕ → ℕ) {made xs : List ℕ} {differs : Bool} where
  pub counters_held : made ≡ front (λ i. counter k d (suc i)) n blank → differs ≡ not (bytes_eq (take n made) xs) →
      (differs ≡ false → xs ≡ counters n k d) × (differs ≡ true → xs ≢ counters n k d)
  unfolding counters
  counters_held made_is told = (row_held _ n made_is told, row_differs _ n made_is told)

  pub pointers_held : made ≡ front (λ i. pointer n k d (suc i)) (suc n) blank → differs ≡ not (bytes_eq (take (n + 1) made) xs) →
      (differs ≡ false → xs ≡ pointers n k d) × (differs ≡ true → xs ≢ pointers n k d)
  unfolding pointers
  pointers_held made_is told =
      let told' = rw add-one at told in (row_held _ (suc n) made_is told', row_differs _ (suc n) made_is told')

-- ---- the number and place of a reading fit a byte each

pub small_reading : (n k : ℕ) (cs fs : List ℕ) (w : Result ℕ Refusal) → Reads n k cs fs w → Small (verdict_of w)
unfolding Reads verdict_of number_of place_of
small_reading n k cs fs (Ok r) reads = record { number = omega arith; place = omega arith }
small_reading n k cs fs (Err refusal) reads =
    rw reads.0 (small_first _ _ (small_buffers n k cs 1 fs) (λ fits. record { number = number_low Board; place = omega arith }))
