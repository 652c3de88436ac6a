-- A book is accepted exactly where it is well formed, and what the reader answers determines its bytes. Both rest on one fact: a list
-- is the book of some stretches exactly where each entry and each body stands in its place (`Laid`). Assumes nothing.
use Prim.Native.Nat.{ℕ, zero, suc, ◌+◌, ◌-◌, ◌*◌, ◌≤◌, ◌<◌}
use mathlib.Core.Path.{◌≡◌, refl, sym, ◌∙◌, ap, ap₂}
use mathlib.Core.Logic.{◌↔◌}
use mathlib.Core.List.{List, [], ◌∷◌, ◌++◌, append_assoc, append-nil}
use native.Mathlib.Nat.{le_refl}
use native.Mathlib.Omega.{arith}
use lib.ListN.{length, take, drop, length-append}
use lib.Seq.{slice, slice-cons, take-length, take-suc, get_or-take, take_all, take_at, drop_at}
use Rattle.rows.specs.Row.{at}
use Rattle.rows.proofs.Rows.{length_row, at_row, row_ext}
use Rattle.sizes.specs.Refusal.{fine}
use Rattle.sizes.specs.Refusal.{unless_refused}
use Rattle.arrangement.specs.Arrangement.{Valid}
use Rattle.arrangement.proofs.Validity.{valid_ext}
use Rattle.order.specs.Rank.{rank, unrank_modules, unrank_settings}
use Rattle.order.proofs.Ranks.{rank_ext, rank_lt, rank_unrank, unrank_valid, unrank_rank_module, unrank_rank_setting}
use Rattle.book.specs.declared.format.Stretch.{Stretch}
use Rattle.book.specs.Format.{Bytes, Format, Bookable, WellFormed, bytes_of, number_in, most_entries, entry_place_lem, body_place, entry_bytes, body_bytes, joined, book_of}
use Rattle.book.specs.Read.{entries_of, n_of, k_of, offset_of, count_of, expected, modules_of, settings_of, rank_of, book_verdict, asked_verdict, answers_of}
use Rattle.book.proofs.Bytes.{bytes_long, number_back, slice_back}
use Rattle.book.proofs.Slices.{take_slice, slice_split, slice_at, slice_row, slice_within, joined_ext, joined_slice}
use Rattle.book.proofs.Formats.{Sound, IsBody}
use Rattle.book.proofs.Checks.{Checked, EntryChecked, checked, checked_fine, book_fine, asked, asked_fine, entry_inside, body_inside, body_places_rise}

-- ---- places and lengths

body_place_ext : (format : Format) (e : ℕ) (n m : ℕ → ℕ) (i : ℕ) → ((h : ℕ) → h < i → n h ≡ m h) → body_place format e n i ≡ body_place format e m i
unfolding body_place
body_place_ext format e n m zero same = refl
body_place_ext format e n m (suc i) same =
    ap₂ (λ place slots. place + format.size slots) (body_place_ext format e n m i (λ h l. same h (omega arith))) (same i (le_refl _))

body_place_first : (format : Format) (e : ℕ) (n : ℕ → ℕ) → body_place format e n 0 ≡ entry_place_lem e
unfolding body_place
body_place_first format e n = refl

entry_places : (i e : ℕ) → i < e → entry_place_lem i + 14 ≤ entry_place_lem e
unfolding entry_place_lem
entry_places i e l = omega arith

two_places : (e : ℕ) → 2 ≤ entry_place_lem e
unfolding entry_place_lem
two_places e = omega arith

pub entry_long : (offset : ℕ) (s : Stretch) → length (entry_bytes offset s) ≡ 14
unfolding entry_bytes
entry_long offset s = omega (arith, length-append (bytes_of 4 offset) (bytes_of 8 s.count), bytes_long 4 offset, bytes_long 8 s.count)

pub body_long : (format : Format) (s : Stretch) → length (body_bytes format s) ≡ format.size s.n
unfolding body_bytes
body_long format s = length_row _ _

module _ (format : Format) (e : ℕ) (s : ℕ → Stretch) where
  -- the parts of the book
  abbrev head : List ℕ
  head = format.number ∷ e ∷ []

  abbrev place_of : ℕ → ℕ
  place_of i = body_place format e (λ h. (s h).n) i

  abbrev entry : ℕ → List ℕ
  entry i = entry_bytes (place_of i) (s i)

  abbrev body : ℕ → List ℕ
  body i = body_bytes format (s i)

  -- how long they are
  pub entries_size : (i : ℕ) → length (joined entry i) ≡ 14 * i
  unfolding joined
  entries_size zero = refl
  entries_size (suc i) = omega (arith, entries_size i, length-append (joined entry i) (entry i), entry_long (place_of i) (s i))

  pub bodies_size : (i : ℕ) → entry_place_lem e + length (joined body i) ≡ place_of i
  unfolding joined body_place
  bodies_size zero = omega arith
  bodies_size (suc i) = omega (arith, bodies_size i, length-append (joined body i) (body i), body_long format (s i))

  entries_long : (i : ℕ) → length (head ++ joined entry i) ≡ entry_place_lem i
  unfolding entry_place_lem
  entries_long i = omega (arith, length-append head (joined entry i), entries_size i)

  bodies_long : (i : ℕ) → length (head ++ joined entry e ++ joined body i) ≡ place_of i
  bodies_long i = omega (arith, length-append (head ++ joined entry e) (joined body i), entries_long e, bodies_size i)

  pub book_long : length (book_of format e s) ≡ place_of e
  unfolding book_of
  book_long = bodies_long e

  -- each part of xs stands in its place
  pub record Laid (xs : List ℕ) : Type 0 where
    pub long : length xs ≡ place_of e
    pub headed : take 2 xs ≡ head
    pub entry_at : (i : ℕ) → i < e → slice (entry_place_lem i) (entry_place_lem i + 14) xs ≡ entry i
    pub body_at : (i : ℕ) → i < e → slice (place_of i) (place_of i + format.size (s i).n) xs ≡ body i

  module _ (xs : List ℕ) where
    -- then it is the book
    entries_taken : Laid xs → (i : ℕ) → i ≤ e → take (entry_place_lem i) xs ≡ head ++ joined entry i
    unfolding joined entry_place_lem
    entries_taken laid zero h = laid.headed ∙ sym (append-nil head)
    entries_taken laid (suc i) h =
        let next : 2 + 14 * suc i ≡ 2 + 14 * i + 14 = omega arith in
        ap (λ t. take t xs) next ∙ take_slice xs (2 + 14 * i) (2 + 14 * i + 14) (omega arith) ∙
        ap₂ (λ (ys zs : List ℕ). ys ++ zs) (entries_taken laid i (omega arith)) (laid.entry_at i h) ∙ append_assoc head (joined entry i) (entry i)

    bodies_taken : Laid xs → (i : ℕ) → i ≤ e → take (place_of i) xs ≡ head ++ joined entry e ++ joined body i
    unfolding joined body_place
    bodies_taken laid zero h = entries_taken laid e (le_refl e) ∙ sym (append-nil (head ++ joined entry e))
    bodies_taken laid (suc i) h =
        take_slice xs (place_of i) (place_of i + format.size (s i).n) (omega arith) ∙
        ap₂ (λ (ys zs : List ℕ). ys ++ zs) (bodies_taken laid i (omega arith)) (laid.body_at i h) ∙ append_assoc (head ++ joined entry e) (joined body i) (body i)

    pub laid_book : Laid xs → xs ≡ book_of format e s
    unfolding book_of
    laid_book laid = sym (take-length xs) ∙ ap (λ t. take t xs) laid.long ∙ bodies_taken laid e (le_refl e)

    -- and the other way
    pub book_laid : xs ≡ book_of format e s → Laid xs
    unfolding book_of
    book_laid is = rw is (record {
      long = bodies_long e;
      headed = refl;
      entry_at = λ i l. joined_slice head (joined body e) entry e l (entries_long i) (entry_long (place_of i) (s i));
      body_at = λ i l.
          ap (slice (place_of i) (place_of i + format.size (s i).n)) (sym (append-nil (head ++ joined entry e ++ joined body e))) ∙
          joined_slice (head ++ joined entry e) [] body e l (bodies_long i) (body_long format (s i));
    })

-- ---- an accepted book is laid

-- what entry i says
unfoldable pub stretch_in : Format → List ℕ → ℕ → Stretch
stretch_in format xs i = record { n = n_of xs i; k = k_of xs i; rank = rank_of format xs i; count = count_of xs i }

two_taken : (xs : List ℕ) → 2 ≤ length xs → take 2 xs ≡ at xs 0 ∷ at xs 1 ∷ []
two_taken xs h = take-suc xs 1 0 h ∙ ap (λ ys. ys ++ (at xs 1 ∷ [])) (take-suc xs 0 0 (omega arith))

entry_parts : (xs : List ℕ) (p : ℕ) → Bytes xs → p + 14 ≤ length xs → slice p (p + 14) xs
    ≡ at xs p ∷ at xs (p + 1) ∷ (bytes_of 4 (number_in (slice (p + 2) (p + 6) xs)) ++ bytes_of 8 (number_in (slice (p + 6) (p + 14) xs)))
entry_parts xs p bytes inside =
    let one : suc p ≡ p + 1 = omega arith in
    let two : suc (p + 1) ≡ p + 2 = omega arith in
    let six : p + 2 + 4 ≡ p + 6 = omega arith in
    let end : p + 6 + 8 ≡ p + 14 = omega arith in
    let first_two : slice p (p + 14) xs ≡ at xs p ∷ at xs (p + 1) ∷ slice (p + 2) (p + 14) xs =
    slice-cons p (p + 14) xs 0 (omega arith) inside ∙ ap (λ q. at xs p ∷ slice q (p + 14) xs) one ∙
    ap (λ ys. at xs p ∷ ys) (slice-cons (p + 1) (p + 14) xs 0 (omega arith) inside ∙ ap (λ q. at xs (p + 1) ∷ slice q (p + 14) xs) two) in
    let offset : bytes_of 4 (number_in (slice (p + 2) (p + 6) xs)) ≡ slice (p + 2) (p + 6) xs = rw six at (slice_back xs (p + 2) 4 bytes (omega arith)) in
    let count : bytes_of 8 (number_in (slice (p + 6) (p + 14) xs)) ≡ slice (p + 6) (p + 14) xs = rw end at (slice_back xs (p + 6) 8 bytes (omega arith)) in
    first_two ∙ ap (λ ys. at xs p ∷ at xs (p + 1) ∷ ys)
    (slice_split xs (p + 2) (p + 6) (p + 14) (omega arith) (omega arith) (omega arith) ∙ sym (ap₂ (λ (ys zs : List ℕ). ys ++ zs) offset count))

module _ {format : Format} (sound : Sound format) (xs : List ℕ) (bytes : Bytes xs) (c : Checked format xs) where
  checked_entry : (i : ℕ) → i < entries_of xs → slice (entry_place_lem i) (entry_place_lem i + 14) xs ≡ entry_bytes (expected format xs i) (stretch_in format xs i)
  unfolding entry_bytes stretch_in n_of k_of count_of
  checked_entry i l =
      entry_parts xs (entry_place_lem i) bytes (entry_inside (record { few = c.few; uncut = c.uncut }) l).1 ∙
      ap (λ o. n_of xs i ∷ k_of xs i ∷ (bytes_of 4 o ++ bytes_of 8 (count_of xs i))) (offset_is i l)
    where
      offset_is : (i : ℕ) → i < entries_of xs → number_in (slice (entry_place_lem i + 2) (entry_place_lem i + 6) xs) ≡ expected format xs i
      offset_is i l = unfold offset_of in (c.entry i l).offset

  checked_body : (i : ℕ) → i < entries_of xs → slice (expected format xs i) (expected format xs i + format.size (n_of xs i)) xs ≡ body_bytes format (stretch_in format xs i)
  unfolding body_bytes stretch_in rank_of
  checked_body i l =
      let ok = c.body i l in
      let n = n_of xs i in
      let k = k_of xs i in
      let M = modules_of format xs i in
      let S = settings_of format xs i in
      slice_row xs (expected format xs i) (format.size n) (body_inside format xs i c.ends l) ∙
      row_ext _ _ (format.size n)
      (λ p h.
      written_back i p h ∙
      sym (sound.same_body n (unrank_modules n k (rank n k M S)) (unrank_settings n k (rank n k M S)) M S (unrank_rank_module n k M S ok) (unrank_rank_setting n k M S ok) p h))
    where
      written_back : (i p : ℕ) → p < format.size (n_of xs i) → at xs (expected format xs i + p) ≡ format.byte (modules_of format xs i) (settings_of format xs i) p
      written_back i p h = unfold modules_of settings_of in sound.byte_back (n_of xs i) (λ q. at xs (expected format xs i + q)) p h

  checked_laid : Laid format (entries_of xs) (stretch_in format xs) xs
  unfolding expected stretch_in entries_of
  checked_laid = record {
    long = c.ends;
    headed = two_taken xs c.headed ∙ ap (λ b. b ∷ at xs 1 ∷ []) c.number;
    entry_at = checked_entry;
    body_at = checked_body;
  }

  pub checked_book : xs ≡ book_of format (entries_of xs) (stretch_in format xs)
  checked_book = laid_book format (entries_of xs) (stretch_in format xs) xs checked_laid

  pub checked_bookable : (i : ℕ) → i < entries_of xs → Bookable (stretch_in format xs i)
  unfolding stretch_in rank_of
  checked_bookable i l =
      let e = c.entry i l in
      record { sizes = e.sizes; rank_high = rank_lt _ _ _ _ (c.body i l); count_low = e.count_low; count_high = e.count_high }

-- ---- a book of bookable stretches is read back

module _ {format : Format} (sound : Sound format) {e : ℕ} {s : ℕ → Stretch} {xs : List ℕ} (laid : Laid format e s xs) (bookable : (i : ℕ) → i < e → Bookable (s i)) (few : e ≤ most_entries) where
  -- where body i begins
  abbrev begins : ℕ → ℕ
  begins i = body_place format e (λ h. (s h).n) i

  contents_inside : entry_place_lem e ≤ length xs
  contents_inside = omega (arith, laid.long, body_places_rise format e (λ h. (s h).n) {i = 0} e (omega arith), body_place_first format e (λ h. (s h).n))

  entry_there : (i : ℕ) → i < e → entry_place_lem i + 14 ≤ length xs
  entry_there i l = omega (arith, contents_inside, entry_places i e l)

  begins_low : (i : ℕ) → i ≤ e → begins i ≤ 898 + 255 * i
  unfolding body_place entry_place_lem
  begins_low zero h = omega arith
  begins_low (suc i) h = omega (arith, begins_low i (omega arith), sound.short (s i).n (bookable i h).sizes.n_high)

  -- the head
  pub read_entries : entries_of xs ≡ e
  unfolding entries_of
  read_entries = sym (get_or-take 2 xs 1 0 (omega arith)) ∙ ap (λ ys. at ys 1) laid.headed

  pub read_number : at xs 0 ≡ format.number
  read_number = sym (get_or-take 2 xs 0 0 (omega arith)) ∙ ap (λ ys. at ys 0) laid.headed

  -- the entries
  module _ (i : ℕ) (l : i < e) where
    entry_byte : (j : ℕ) → j < 14 → at xs (entry_place_lem i + j) ≡ at (entry_bytes (begins i) (s i)) j
    entry_byte j h = sym (slice_at xs (entry_place_lem i) (entry_place_lem i + 14) j (omega arith)) ∙ ap (λ ys. at ys j) (laid.entry_at i l)

    pub read_n : n_of xs i ≡ (s i).n
    unfolding n_of entry_bytes
    read_n = let here : entry_place_lem i ≡ entry_place_lem i + 0 = omega arith in ap (at xs) here ∙ entry_byte 0 (omega arith)

    pub read_k : k_of xs i ≡ (s i).k
    unfolding k_of entry_bytes
    read_k = entry_byte 1 (omega arith)

    pub read_offset : offset_of xs i ≡ begins i
    unfolding offset_of entry_bytes
    read_offset =
        ap number_in
        (slice_within xs (entry_place_lem i) (entry_place_lem i + 14) 2 6 (omega arith) (omega arith) (entry_there i l) ∙ ap (slice 2 6) (laid.entry_at i l) ∙
        take_at (bytes_of 4 (begins i)) (bytes_of 8 (s i).count) 4 (bytes_long 4 (begins i))) ∙
        number_back 4 (begins i) (omega (arith, begins_low i (omega arith)))

    pub read_count : count_of xs i ≡ (s i).count
    unfolding count_of entry_bytes
    read_count =
        let A = bytes_of 4 (begins i) in
        let B = bytes_of 8 (s i).count in
        let twelve : length (A ++ B) ≤ 12 = omega (arith, length-append A B, bytes_long 4 (begins i), bytes_long 8 (s i).count) in
        ap number_in
        (slice_within xs (entry_place_lem i) (entry_place_lem i + 14) 6 14 (omega arith) (omega arith) (entry_there i l) ∙ ap (slice 6 14) (laid.entry_at i l) ∙
        ap (drop 4) (take_all 12 (A ++ B) twelve) ∙ drop_at A B 4 (bytes_long 4 (begins i))) ∙
        number_back 8 (s i).count (omega (arith, (bookable i l).count_high, (bookable i l).sizes.few))

  -- the bodies
  read_place : (i : ℕ) → i ≤ e → expected format xs i ≡ begins i
  unfolding expected
  read_place i h = ap (λ x. body_place format x (n_of xs) i) read_entries ∙ body_place_ext format e (n_of xs) (λ g. (s g).n) i (λ g l. read_n g (omega arith))

  module _ (i : ℕ) (l : i < e) where
    abbrev M : ℕ → ℕ
    M = unrank_modules (s i).n (s i).k (s i).rank

    abbrev S : ℕ → ℕ
    S = unrank_settings (s i).n (s i).k (s i).rank

    first_valid : Valid (s i).n (s i).k M S
    first_valid = unrank_valid (s i).n (s i).k (s i).rank (bookable i l).sizes.k_low (bookable i l).rank_high

    is_body : IsBody format (s i).n M S (λ p. at xs (expected format xs i + p))
    unfolding body_bytes
    is_body p h =
        ap (λ q. at xs (q + p)) (read_place i (omega arith)) ∙
        sym (slice_at xs (begins i) (begins i + format.size (s i).n) p (omega arith)) ∙ ap (λ ys. at ys p) (laid.body_at i l) ∙ at_row _ (format.size (s i).n) p h

    pub read_module : (j : ℕ) → j < (s i).n → modules_of format xs i j ≡ M j
    unfolding modules_of
    read_module = sound.module_back (s i).n (s i).k M S _ (bookable i l).sizes first_valid is_body

    pub read_setting : (j : ℕ) → j < (s i).n → settings_of format xs i j ≡ S j
    unfolding settings_of
    read_setting = sound.setting_back (s i).n (s i).k M S _ (bookable i l).sizes first_valid is_body

    pub read_rank : rank_of format xs i ≡ (s i).rank
    unfolding rank_of
    read_rank =
        rw (read_n i l, read_k i l)
        (rank_ext (s i).n (s i).k _ _ M S read_module read_setting ∙ rank_unrank (s i).n (s i).k (s i).rank (bookable i l).sizes.k_low (bookable i l).rank_high)

    read_entry : EntryChecked format xs i
    read_entry =
        let b = bookable i l in
        record {
          sizes = rw (read_n i l, read_k i l) b.sizes;
          offset = read_offset i l ∙ sym (read_place i (omega arith));
          count_low = rw (read_count i l) b.count_low;
          count_high = rw (read_n i l, read_k i l, read_count i l) b.count_high;
        }

    read_valid : Valid (n_of xs i) (k_of xs i) (modules_of format xs i) (settings_of format xs i)
    read_valid =
        rw (read_n i l, read_k i l)
        (valid_ext (λ j h. sym (read_module j h)) (λ j h. sym (read_setting j h)) first_valid)

  pub laid_checked : 1 ≤ e → Checked format xs
  laid_checked some = record {
    headed = omega (arith, contents_inside, two_places e);
    number = read_number;
    some = rw read_entries some;
    few = rw read_entries few;
    uncut = rw read_entries contents_inside;
    entry = λ i l. read_entry i (rw read_entries at l);
    ends = rw read_entries (laid.long ∙ sym (read_place e (le_refl e)));
    body = λ i l. read_valid i (rw read_entries at l);
  }

-- ---- accepted exactly where well formed

module _ {format : Format} (sound : Sound format) (xs : List ℕ) where
  pub accepted_well_formed : Bytes xs → book_verdict format xs ≡ fine → WellFormed format xs
  accepted_well_formed bytes passed =
      let c = checked format xs passed in
      record {
        e = entries_of xs;
        s = stretch_in format xs;
        some = c.some;
        few = c.few;
        bookable = checked_bookable sound xs bytes c;
        bytes = checked_book sound xs bytes c;
      }

  pub well_formed_accepted : WellFormed format xs → book_verdict format xs ≡ fine
  well_formed_accepted w =
      sym (checked_fine format xs (laid_checked sound (book_laid format w.e w.s xs w.bytes) w.bookable w.few w.some))

  -- for some entry, and then for each of its entries
  pub accepted_exactly : Bytes xs → ((entry : ℕ) × (asked_verdict format xs entry ≡ fine)) ↔ WellFormed format xs
  accepted_exactly bytes = (
    λ a. accepted_well_formed bytes (book_fine format xs a.0 a.1),
    λ w. let passed = well_formed_accepted w in (1, asked_fine format xs 1 passed (omega arith) (checked format xs passed).some),
  )

-- ---- the answers determine the bytes

pub book_ext : (format : Format) (e : ℕ) (s t : ℕ → Stretch) → ((i : ℕ) → i < e → s i ≡ t i) → book_of format e s ≡ book_of format e t
unfolding book_of
book_ext format e s t same =
    ap₂ (λ (ys zs : List ℕ). (format.number ∷ e ∷ []) ++ ys ++ zs)
    (joined_ext _ _ e
    (λ i l. ap₂ entry_bytes (body_place_ext format e (λ h. (s h).n) (λ h. (t h).n) i (λ h g. ap (λ x. x.n) (same h (omega arith)))) (same i l)))
    (joined_ext _ _ e (λ i l. ap (body_bytes format) (same i l)))

module _ {format : Format} (sound : Sound format) (xs ys : List ℕ) (bytes_x : Bytes xs) (bytes_y : Bytes ys) (told : (entry : ℕ) → answers_of format xs entry ≡ answers_of format ys entry) where
  same_verdict : (entry : ℕ) → asked_verdict format xs entry ≡ asked_verdict format ys entry
  unfolding answers_of
  same_verdict entry = ap (λ a. a.verdict) (told entry)

  same_answers : (i : ℕ) → asked_verdict format xs (i + 1) ≡ fine → stretch_in format xs i ≡ stretch_in format ys i
  unfolding answers_of unless_refused stretch_in
  same_answers i passed =
      let passed_too : asked_verdict format ys (i + 1) ≡ fine = sym (same_verdict (i + 1)) ∙ passed in
      let here : i + 1 - 1 ≡ i = omega arith in
      let a : answers_of format xs (i + 1) ≡ answers_of format ys (i + 1) = told (i + 1) in
      let n_is : n_of xs i ≡ n_of ys i = rw (passed, passed_too, here) at (ap (λ a. a.n) a) in
      let k_is : k_of xs i ≡ k_of ys i = rw (passed, passed_too, here) at (ap (λ a. a.k) a) in
      let count_is : count_of xs i ≡ count_of ys i = rw (passed, passed_too, here) at (ap (λ a. a.count) a) in
      let rank_is : rank_of format xs i ≡ rank_of format ys i = rw (passed, passed_too, here) at (ap (λ a. a.start) a) in
      λ j. record { n = n_is j; k = k_is j; rank = rank_is j; count = count_is j }

  -- as many entries
  same_entries : book_verdict format xs ≡ fine → book_verdict format ys ≡ fine → entries_of xs ≡ entries_of ys
  same_entries fine_x fine_y =
      let x = checked format xs fine_x in
      let y = checked format ys fine_y in
      let up : entries_of xs ≤ entries_of ys =
      (asked format ys (entries_of xs) (sym (same_verdict (entries_of xs)) ∙ asked_fine format xs (entries_of xs) fine_x x.some (le_refl _))).high in
      let down : entries_of ys ≤ entries_of xs =
      (asked format xs (entries_of ys) (same_verdict (entries_of ys) ∙ asked_fine format ys (entries_of ys) fine_y y.some (le_refl _))).high in
      omega arith

  pub determined : book_verdict format xs ≡ fine → xs ≡ ys
  determined fine_x =
      let x = checked format xs fine_x in
      let fine_y : book_verdict format ys ≡ fine = book_fine format ys 1 (sym (same_verdict 1) ∙ asked_fine format xs 1 fine_x (omega arith) x.some) in
      let y = checked format ys fine_y in
      let same = same_entries fine_x fine_y in
      checked_book sound xs bytes_x x ∙
      book_ext format (entries_of xs) (stretch_in format xs) (stretch_in format ys)
      (λ i l. same_answers i (asked_fine format xs (i + 1) fine_x (omega arith) (omega (arith, l)))) ∙
      ap (λ e. book_of format e (stretch_in format ys)) same ∙ sym (checked_book sound ys bytes_y y)
