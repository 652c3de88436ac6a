-- The laws of the check of a book. Verdicts about entries are taken in their order, so a loop that has met no refusal knows that
-- those passed are fine; and a fine verdict says what its checks do. Assumes nothing.
use Prim.Native.Nat.{ℕ, zero, suc, ◌+◌, ◌-◌, ◌*◌, ◌/◌, ◌%◌, ◌≤◌, ◌<◌}
use mathlib.Core.Path.{◌≡◌, refl, sym, ◌∙◌, ap, ap₂}
use mathlib.Core.Bool.{Bool, true, false, cond, not}
use mathlib.Core.List.{List, ◌++◌}
use native.Mathlib.Nat.{not-suc-le-zero, le_refl}
use native.Mathlib.Numerals.{add-one}
use native.Mathlib.Omega.{arith}
use lib.Dec.{eqb}
use lib.ListN.{length, take, drop, replicate, length-append, length-drop}
use lib.Seq.{slice, length-take-le, take_at}
use borrow.Author.Tests.{eq-eqb, eqb-true, ltb-false, le-ltb, not-false}
use Rattle.rows.specs.Row.{at, row}
use Rattle.rows.proofs.Cases.{by_last, by_lt, by_test, opposite, inside, in_range}
use Rattle.rows.proofs.Rows.{length_row, row_ext, at_row}
use Rattle.std.proofs.Common.{Err, Ok}
use Rattle.std.specs.Result.{IsErrAnd}
use Rattle.sizes.specs.declared.Fault.TheVariants.{Contents, Format as WrongFormat, Length, Entry, End, Asked as NotAsked}
use Rattle.sizes.specs.declared.Refusal.{Refusal}
use Rattle.sizes.specs.Refusal.{Verdict, fine, number_of, place_of, first, refused_if}
use Rattle.sizes.specs.Sizes.{weight, Permitted, sizes_verdict, most_slots}
use Rattle.sizes.proofs.Refusals.{left_with, both_fine, no_fault, faultless, last_faultless, Small, small_first, small_if}
use Rattle.sizes.proofs.Weights.{permitted, not_refused, small_sizes}
use Rattle.arrangement.specs.Arrangement.{Valid}
use Rattle.arrangement.specs.Check.{length_verdict, slots_verdict}
use Rattle.arrangement.proofs.Checks.{right_length}
use Rattle.arrangement.proofs.Validity.{valid, slots_ext, valid_fine, has_length, small_slots}
use Rattle.book.specs.Format.{Bytes, Format, format_one, number_in, most_entries, entry_place_lem, body_place}
use Rattle.book.specs.Read.{entries_of, entry_of, n_of, k_of, offset_of, count_of, expected, modules_of, settings_of, in_entry_lem, first_of, cut_verdict, head_verdict, book_count_verdict, entry_verdict, end_verdict, contents_verdict, body_verdict, book_verdict, asked_verdict, lent_entry_verdict}
use Rattle.book.proofs.Slices.{part_slice, slice_at, slice_within}
use Rattle.book.specs.Asked.{ContentsAsked, BodiesAsked}

-- ---- verdicts about entries, in order

module _ (v : ℕ → Verdict) where
  pub none_judged : first_of v 0 ≡ fine
  unfolding first_of
  none_judged = refl

  pub entry_passed : {i : ℕ} {w : Verdict} → first_of v i ≡ fine → w ≡ v i → fine ≡ in_entry_lem i w → first_of v (i + 1) ≡ fine
  unfolding first_of first
  entry_passed {i} none is passed =
      rw (add-one, first_of, none, ← is) (sym passed)

  -- entry i, behind entries that are fine, is the first that is refused
  pub first_refused : {i : ℕ} (m : ℕ) {r : Refusal} → first_of v i ≡ fine → i < m → in_entry_lem i (v i) ≡ Err r → first_of v m ≡ Err r
  unfolding first_of first
  first_refused zero none l e = absurd (not-suc-le-zero l)
  first_refused {i} (suc m) none l e =
      by_lt i m (λ l'. rw (first_refused m none l' e, first))
      (λ g. let same : m ≡ i = omega arith in rw (same, none) e)

  -- so a loop that leaves at its verdict w answers it, with its place, whatever comes later
  pub stops_in : {i m : ℕ} {w x : Verdict} {r : Refusal} (later : Verdict) → first_of v i ≡ fine → i < m → w ≡ v i → IsErrAnd x (λ e. e ≡ r) → Err r ≡ in_entry_lem i w →
      (x ≡ first_of v m) × (x ≡ first (first_of v m) later)
  unfolding first
  stops_in {i} {m} later none l is left told =
      let whole = first_refused m none l (ap (in_entry_lem i) (sym is) ∙ sym told) in
      (left_with left ∙ sym whole, rw whole (left_with left))

  pub each_fine : (m : ℕ) → first_of v m ≡ fine → (i : ℕ) → i < m → v i ≡ fine
  unfolding first_of
  each_fine zero e i l = absurd (not-suc-le-zero l)
  each_fine (suc m) e i l =
      let both = both_fine (first_of v m) _ e in
      by_last (λ x. v x ≡ fine) l (λ l'. each_fine m both.0 i l') (in_entry_fine m (v m) both.1)
    where
      in_entry_fine : (i : ℕ) (w : Verdict) → in_entry_lem i w ≡ fine → w ≡ fine
      in_entry_fine i (Ok done) e = refl
      in_entry_fine i (Err refusal) e = unfold in_entry_lem in cc

  pub fine_each : (m : ℕ) → ((i : ℕ) → i < m → v i ≡ fine) → first_of v m ≡ fine
  unfolding first_of first in_entry_lem
  fine_each zero all = refl
  fine_each (suc m) all = rw (fine_each m (λ i l. all i (omega arith)), all m (omega arith))

-- ---- a byte or a number that is to be another, and behind it a further test

in_place : {a b : ℕ} {rest : Bool} → a ≡ b → rest ≡ false → cond (eqb a b) rest true ≡ false
in_place {a} {b} e same = rw (eq-eqb a b e) same

both_pass : (a b : ℕ) (rest : Bool) → cond (eqb a b) rest true ≡ false → (a ≡ b) × (rest ≡ false)
both_pass a b rest e =
    by_test (eqb a b) (λ t. (eqb-true a b t, (rw t at e))) (λ t. let z : ◌≡◌ {A = Bool} true false = (rw t at e) in absurd (opposite refl z))

-- ---- places

pub entry_inside : {xs : List ℕ} {i : ℕ} → ContentsAsked xs → i < entries_of xs → (i < most_entries) × (entry_place_lem i + 14 ≤ length xs)
unfolding entry_place_lem
entry_inside asked l = (omega (arith, asked.few), omega (arith, asked.uncut))

pub body_places_rise : (format : Format) (e : ℕ) (n : ℕ → ℕ) {i : ℕ} (j : ℕ) → i ≤ j → body_place format e n i ≤ body_place format e n j
unfolding body_place
body_places_rise format e n {i} zero h = let same : i ≡ 0 = omega arith in rw same (le_refl _)
body_places_rise format e n {i} (suc j) h =
    by_lt i (suc j) (λ l. omega (arith, body_places_rise format e n {i = i} j (omega arith)))
    (λ g. let same : i ≡ suc j = omega arith in rw same (le_refl _))

pub expected_first : (format : Format) (xs : List ℕ) → entry_place_lem (entries_of xs) ≡ expected format xs 0
unfolding expected body_place
expected_first format xs = refl

pub expected_next : (format : Format) (xs : List ℕ) (i : ℕ) → expected format xs i + format.size (n_of xs i) ≡ expected format xs (i + 1)
unfolding expected body_place
expected_next format xs i = rw (add-one, body_place)

-- a body ends before the book does
pub body_inside : (format : Format) (xs : List ℕ) (i : ℕ) → length xs ≡ expected format xs (entries_of xs) → i < entries_of xs → expected format xs i + format.size (n_of xs i) ≤ length xs
unfolding expected body_place
body_inside format xs i ends l = omega (arith, body_places_rise format (entries_of xs) (n_of xs) {i = suc i} (entries_of xs) l)

pub expected_high : (xs : List ℕ) → Bytes xs → entries_of xs ≤ most_entries → (i : ℕ) → expected format_one xs i ≤ 898 + 255 * i
unfolding expected body_place format_one entry_place_lem n_of Bytes
expected_high xs bytes few zero = omega arith
expected_high xs bytes few (suc i) = omega (arith, expected_high xs bytes few i, bytes (entry_place_lem i))

-- ---- what a fine verdict says

-- of entry i, in a book that may still be cut or have bad bodies
pub record EntryChecked (format : Format) (xs : List ℕ) (i : ℕ) : Type 0 where
  pub sizes : Permitted (n_of xs i) (k_of xs i)
  pub offset : offset_of xs i ≡ expected format xs i
  pub count_low : 1 ≤ count_of xs i
  pub count_high : count_of xs i ≤ weight (n_of xs i) (k_of xs i)

pub entry_checked : (format : Format) (xs : List ℕ) (i : ℕ) → entry_verdict format xs i ≡ fine → EntryChecked format xs i
unfolding entry_verdict book_count_verdict
entry_checked format xs i e =
    let both = both_fine (sizes_verdict (n_of xs i) (k_of xs i)) _ e in
    let rest = both_fine (refused_if Entry (not (eqb (offset_of xs i) (expected format xs i)))) _ both.1 in
    let range = inside 1 (weight (n_of xs i) (k_of xs i)) (count_of xs i) (no_fault Entry _ rest.1) in
    record {
      sizes = permitted _ _ both.0;
      offset = eqb-true _ _ (not-false _ (no_fault Entry _ rest.0));
      count_low = range.0;
      count_high = range.1;
    }

pub entry_fine : (format : Format) (xs : List ℕ) (i : ℕ) → EntryChecked format xs i → entry_verdict format xs i ≡ fine
unfolding entry_verdict book_count_verdict first
entry_fine format xs i c =
    rw (← not_refused (n_of xs i) (k_of xs i) c.sizes, first)
    (sym (faultless Entry (right_length (offset_of xs i) _ c.offset)
    (last_faultless Entry (in_range 1 (weight (n_of xs i) (k_of xs i)) (count_of xs i) c.count_low c.count_high))))

-- of the head, and of a book's end
pub some_entries : (format : Format) (xs : List ℕ) → head_verdict format xs ≡ fine → (at xs 0 ≡ format.number) × (1 ≤ entries_of xs) × (entries_of xs ≤ most_entries)
unfolding head_verdict
some_entries format xs e =
    let head = both_pass (at xs 0) format.number _ (no_fault WrongFormat _ e) in
    let range = inside 1 most_entries (entries_of xs) head.1 in (head.0, range.0, range.1)

pub uncut : (end : ℕ) (xs : List ℕ) → cut_verdict end xs ≡ fine → end ≤ length xs
unfolding cut_verdict
uncut end xs e = ltb-false (length xs) end (no_fault Contents _ e)

pub contents_asked : (format : Format) (xs : List ℕ) → head_verdict format xs ≡ fine → cut_verdict (entry_place_lem (entries_of xs)) xs ≡ fine → ContentsAsked xs
contents_asked format xs head whole = record { few = (some_entries format xs head).2; uncut = uncut _ xs whole }

-- of a book
pub record Checked (format : Format) (xs : List ℕ) : Type 0 where
  pub headed : 2 ≤ length xs
  pub number : at xs 0 ≡ format.number
  pub some : 1 ≤ entries_of xs
  pub few : entries_of xs ≤ most_entries
  pub uncut : entry_place_lem (entries_of xs) ≤ length xs
  pub entry : (i : ℕ) → i < entries_of xs → EntryChecked format xs i
  pub ends : length xs ≡ expected format xs (entries_of xs)
  pub body : (i : ℕ) → i < entries_of xs → Valid (n_of xs i) (k_of xs i) (modules_of format xs i) (settings_of format xs i)

pub checked : (format : Format) (xs : List ℕ) → book_verdict format xs ≡ fine → Checked format xs
unfolding book_verdict contents_verdict end_verdict body_verdict
checked format xs e =
    let e1 = both_fine (cut_verdict 2 xs) _ e in
    let e2 = both_fine (head_verdict format xs) _ e1.1 in
    let e3 = both_fine (cut_verdict (entry_place_lem (entries_of xs)) xs) _ e2.1 in
    let e4 = both_fine (contents_verdict format xs) _ e3.1 in
    let e5 = both_fine (first_of (entry_verdict format xs) (entries_of xs)) _ e4.0 in
    let head = some_entries format xs e2.0 in
    record {
      headed = uncut 2 xs e1.0;
      number = head.0;
      some = head.1;
      few = head.2;
      uncut = uncut (entry_place_lem (entries_of xs)) xs e3.0;
      entry = λ i l. entry_checked format xs i (each_fine (entry_verdict format xs) (entries_of xs) e5.0 i l);
      ends = eqb-true _ _ (not-false _ (no_fault End _ e5.1));
      body = λ i l. valid _ _ _ _ (each_fine (body_verdict format xs) (entries_of xs) e4.1 i l);
    }

-- and where all that holds, nothing is refused
contents_fine : (format : Format) (xs : List ℕ) → Checked format xs → contents_verdict format xs ≡ fine
unfolding contents_verdict end_verdict first
contents_fine format xs c =
    rw (fine_each (entry_verdict format xs) (entries_of xs) (λ i l. entry_fine format xs i (c.entry i l)))
    (sym (last_faultless End (right_length (length xs) _ c.ends)))

pub checked_fine : (format : Format) (xs : List ℕ) → Checked format xs → fine ≡ book_verdict format xs
unfolding book_verdict cut_verdict head_verdict body_verdict first
checked_fine format xs c =
    faultless Contents (le-ltb (length xs) 2 c.headed)
    (faultless WrongFormat (in_place c.number (in_range 1 most_entries (entries_of xs) c.some c.few))
    (faultless Contents (le-ltb (length xs) (entry_place_lem (entries_of xs)) c.uncut)
    (rw (contents_fine format xs c)
    (sym (fine_each (body_verdict format xs) (entries_of xs) (λ i l. sym (valid_fine _ _ _ _ (c.body i l))))))))

-- of a book and the entry asked for, 01's entry 1 to E
pub record Asked (format : Format) (xs : List ℕ) (entry : ℕ) : Type 0 where
  pub book : Checked format xs
  pub low : 1 ≤ entry
  pub high : entry ≤ entries_of xs

pub asked : (format : Format) (xs : List ℕ) (entry : ℕ) → asked_verdict format xs entry ≡ fine → Asked format xs entry
unfolding asked_verdict
asked format xs entry e =
    let both = both_fine (book_verdict format xs) _ e in
    let range = inside 1 (entries_of xs) entry (no_fault NotAsked _ both.1) in
    record { book = checked format xs both.0; low = range.0; high = range.1 }

-- the whole book is checked for every entry, and where it is fine so is each of its entries
pub book_fine : (format : Format) (xs : List ℕ) (entry : ℕ) → asked_verdict format xs entry ≡ fine → book_verdict format xs ≡ fine
unfolding asked_verdict
book_fine format xs entry e = (both_fine (book_verdict format xs) _ e).0

pub asked_fine : (format : Format) (xs : List ℕ) (entry : ℕ) → book_verdict format xs ≡ fine → 1 ≤ entry → entry ≤ entries_of xs → asked_verdict format xs entry ≡ fine
unfolding asked_verdict first
asked_fine format xs entry passed low high = rw passed (sym (last_faultless NotAsked (in_range 1 (entries_of xs) entry low high)))

-- so of the entry asked for, which is entry - 1 when counted from 0
pub record EntryAsked (format : Format) (xs : List ℕ) (entry : ℕ) : Type 0 where
  pub low : 1 ≤ entry
  pub few : entry - 1 < most_entries
  pub inside_book : entry_place_lem (entry - 1) + 14 ≤ length xs
  pub is : EntryChecked format xs (entry - 1)
  pub body_ends : expected format xs (entry - 1) + format.size (n_of xs (entry - 1)) ≤ length xs
  pub body : Valid (n_of xs (entry - 1)) (k_of xs (entry - 1)) (modules_of format xs (entry - 1)) (settings_of format xs (entry - 1))

pub entry_asked : {format : Format} (xs : List ℕ) {entry : ℕ} → asked_verdict format xs entry ≡ fine → EntryAsked format xs entry
entry_asked {format} xs {entry} e =
    let a = asked format xs entry e in
    let there : entry - 1 < entries_of xs = omega (arith, a.low, a.high) in
    record {
      low = a.low;
      few = omega (arith, a.book.few);
      inside_book = (entry_inside (record { few = a.book.few; uncut = a.book.uncut }) there).1;
      is = a.book.entry (entry - 1) there;
      body_ends = body_inside format xs (entry - 1) a.book.ends there;
      body = a.book.body (entry - 1) there;
    }

-- and of the lent buffers
pub lent_fine : (format : Format) (xs : List ℕ) (entry : ℕ) (ms ss : List ℕ) → lent_entry_verdict format xs entry ms ss ≡ fine →
    (asked_verdict format xs entry ≡ fine) × (length ms ≡ n_of xs (entry - 1)) × (length ss ≡ n_of xs (entry - 1))
unfolding lent_entry_verdict
lent_fine format xs entry ms ss e =
    let both = both_fine (asked_verdict format xs entry) _ e in
    let lengths = both_fine (length_verdict (n_of xs (entry - 1)) ms) _ both.1 in
    (both.0, has_length _ ms lengths.0, has_length _ ss lengths.1)

-- what the bodies' check asks, behind a fine verdict of the contents
pub bodies_asked : (xs : List ℕ) → ContentsAsked xs → contents_verdict format_one xs ≡ fine → BodiesAsked xs
unfolding contents_verdict end_verdict
bodies_asked xs a e =
    let both = both_fine (first_of (entry_verdict format_one xs) (entries_of xs)) _ e in
    record {
      contents = a;
      sizes = λ i l. (entry_checked format_one xs i (each_fine (entry_verdict format_one xs) (entries_of xs) both.0 i l)).sizes;
      ends = eqb-true _ _ (not-false _ (no_fault End _ both.1));
    }

-- ---- what is read off an entry

module _ (xs : List ℕ) (i : ℕ) {ys : List ℕ} (is : ys ≡ entry_of xs i) where
  byte_read : (j : ℕ) → j < 14 → at ys j ≡ at xs (entry_place_lem i + j)
  unfolding entry_of
  byte_read j l = ap (λ zs. at zs j) is ∙ slice_at xs (entry_place_lem i) (entry_place_lem i + 14) j (omega arith)

  pub n_read : at ys 0 ≡ n_of xs i
  unfolding n_of
  n_read = let there : entry_place_lem i + 0 ≡ entry_place_lem i = omega arith in byte_read 0 (omega arith) ∙ ap (at xs) there

  pub k_read : at ys 1 ≡ k_of xs i
  unfolding k_of
  k_read = byte_read 1 (omega arith)

  -- a number in the bytes that code takes as a list of their own
  number_read : (f t : ℕ) {r : ℕ} → entry_place_lem i + 14 ≤ length xs → f ≤ t → t ≤ 14 → r ≡ number_in (take (t - f) (drop f ys)) → r ≡ number_in (slice (entry_place_lem i + f) (entry_place_lem i + t) xs)
  unfolding entry_of
  number_read f t within h l e =
      let place = entry_place_lem i in
      e ∙ ap number_in (part_slice f t ys h ∙ ap (slice f t) is ∙ sym (slice_within xs place (place + 14) f t h (omega arith) within))

  pub offset_read : {r : ℕ} → entry_place_lem i + 14 ≤ length xs → r ≡ number_in (take (6 - 2) (drop 2 ys)) → r ≡ offset_of xs i
  unfolding offset_of
  offset_read within e = number_read 2 6 within (omega arith) (omega arith) e

  pub count_read : {r : ℕ} → entry_place_lem i + 14 ≤ length xs → r ≡ number_in (take (14 - 6) (drop 6 ys)) → r ≡ count_of xs i
  unfolding count_of
  count_read within e = number_read 6 14 within (omega arith) (omega arith) e

-- a verdict about a count is about that of entry i where what was read is what the entry says
pub count_judged : {n k count m h other : ℕ} {v : Verdict} → n ≡ m → k ≡ h → count ≡ other → v ≡ book_count_verdict n k count → v ≡ book_count_verdict m h other
count_judged n_is k_is count_is e = e ∙ rw (n_is, k_is, count_is)

-- ---- a body

-- the bytes of body i, which code takes as a list of their own, and the verdict about them
module _ (xs : List ℕ) (i : ℕ) {place n : ℕ} (place_is : place ≡ expected format_one xs i) (n_is : n ≡ n_of xs i) (inside : place + n ≤ length xs) where
  pub body_long : length (take (place + n - place) (drop place xs)) ≡ n
  body_long = let wide : place + n - place ≡ n = omega arith in rw wide (length-take-le n (drop place xs) (omega (arith, length-drop place xs)))

  body_at : (p : ℕ) → p < n → at (take (place + n - place) (drop place xs)) p ≡ at xs (expected format_one xs i + p)
  body_at p l =
      ap (λ ys. at ys p) (part_slice place (place + n) xs (omega arith)) ∙ slice_at xs place (place + n) p (omega arith) ∙ ap (λ q. at xs (q + p)) place_is

  pub body_modules : (let body : List ℕ = take (place + n - place) (drop place xs) in row (format_one.module_in (at body)) (length body)) ≡ row (modules_of format_one xs i) (n_of xs i)
  unfolding modules_of format_one
  body_modules =
      ap (row _) body_long ∙ row_ext _ _ n (λ p l. ap (λ x. x % 32) (body_at p l)) ∙ ap (row _) n_is

  pub body_settings : (let body : List ℕ = take (place + n - place) (drop place xs) in row (format_one.setting_in (at body)) (length body)) ≡ row (settings_of format_one xs i) (n_of xs i)
  unfolding settings_of format_one
  body_settings =
      ap (row _) body_long ∙ row_ext _ _ n (λ p l. ap (λ x. x / 32) (body_at p l)) ∙ ap (row _) n_is

  pub body_judged : {k : ℕ} {v : Verdict} → k ≡ k_of xs i → (let body : List ℕ = take (place + n - place) (drop place xs) in
      v ≡ slots_verdict (length body) k (format_one.module_in (at body)) (format_one.setting_in (at body))) → v ≡ body_verdict format_one xs i
  unfolding body_verdict modules_of settings_of format_one
  body_judged {k} k_is e =
      let body : List ℕ = take (place + n - place) (drop place xs) in
      e ∙ ap (λ m. slots_verdict m k (format_one.module_in (at body)) (format_one.setting_in (at body))) body_long ∙
      slots_ext n k _ _ (modules_of format_one xs i) (settings_of format_one xs i) (λ p l. ap (λ x. x % 32) (body_at p l)) (λ p l. ap (λ x. x / 32) (body_at p l)) ∙
      ap₂ (λ m h. slots_verdict m h (modules_of format_one xs i) (settings_of format_one xs i)) n_is k_is

-- a row by value with nothing in it, of which the first n places are lent
abbrev pub empty : List ℕ
empty = replicate most_slots 0

pub lent_length : {n : ℕ} → n ≤ most_slots → length (take n empty) ≡ n
lent_length {n} h = length-take-le n empty h

-- a row of n slots, written into the first n places of a longer one
module _ (f : ℕ → ℕ) {m n : ℕ} {ws : List ℕ} (rest : List ℕ) (same : m ≡ n) (written : ws ≡ row f m) where
  pub written_long : n ≤ length (ws ++ rest)
  written_long = omega (arith, length-append ws rest, ap length written, length_row f m)

  pub written_taken : length (take n (ws ++ rest)) ≡ n
  written_taken = length-take-le n (ws ++ rest) written_long

  pub written_at : (i : ℕ) → i < n → at (take n (ws ++ rest)) i ≡ f i
  written_at i l =
      let long : length ws ≡ n = ap length written ∙ length_row f m ∙ same in
      ap (λ ys. at ys i) (take_at ws rest n long) ∙ ap (λ ys. at ys i) written ∙ at_row f m i (omega arith)

-- ---- numbers and places fit a byte each

small_in_entry : (i : ℕ) (v : Verdict) → i < most_entries → Small v → Small (in_entry_lem i v)
unfolding in_entry_lem number_of place_of
small_in_entry i (Ok done) l small = small
small_in_entry i (Err refusal) l small = record { number = small.number; place = omega arith }

pub small_first_of : (v : ℕ → Verdict) (m : ℕ) → m ≤ most_entries → ((i : ℕ) → i < m → Small (v i)) → Small (first_of v m)
unfolding first_of number_of place_of
small_first_of v zero few small = record { number = omega arith; place = omega arith }
small_first_of v (suc m) few small =
    small_first _ _ (small_first_of v m (omega arith) (λ i l. small i (omega arith)))
    (λ passed. small_in_entry m (v m) few (small m (omega arith)))

small_entry : (format : Format) (xs : List ℕ) (i : ℕ) → Small (entry_verdict format xs i)
unfolding entry_verdict book_count_verdict
small_entry format xs i =
    small_first _ _ (small_sizes (n_of xs i) (k_of xs i)) (λ passed. small_first _ _ (small_if Entry _) (λ placed. small_if Entry _))

small_book : (format : Format) (xs : List ℕ) → Small (book_verdict format xs)
unfolding book_verdict cut_verdict head_verdict contents_verdict end_verdict body_verdict
small_book format xs =
    small_first _ _ (small_if Contents _)
    (λ long. small_first _ _ (small_if WrongFormat _)
    (λ head.
    let few = (inside 1 most_entries (entries_of xs) (both_pass (at xs 0) format.number _ (no_fault WrongFormat _ head)).1).1 in
    small_first _ _ (small_if Contents _)
    (λ uncut. small_first _ _
    (small_first _ _ (small_first_of _ _ few (λ i l. small_entry format xs i)) (λ passed. small_if End _))
    (λ contents. small_first_of _ _ few
    (λ i l. small_slots _ _ _ _ (entry_checked format xs i (each_fine (entry_verdict format xs) (entries_of xs) (both_fine (first_of (entry_verdict format xs) (entries_of xs)) _ contents).0 i l)).sizes.n_high)))))

pub small_lent_entry : (format : Format) (xs : List ℕ) (entry : ℕ) (ms ss : List ℕ) → Small (lent_entry_verdict format xs entry ms ss)
unfolding lent_entry_verdict asked_verdict length_verdict
small_lent_entry format xs entry ms ss =
    small_first _ _ (small_first _ _ (small_book format xs) (λ passed. small_if NotAsked _))
    (λ asked. small_first _ _ (small_if Length _) (λ passed. small_if Length _))
