-- A book is written by its parts, one behind the other: the bytes of a number, the slots of a body, the entries and the bodies each
-- one by one. Their lengths are those of the book's places. Assumes nothing.
use Prim.Native.Nat.{ℕ, zero, suc, ◌+◌, ◌*◌, ◌/◌, ◌%◌, ◌≤◌, ◌<◌}
use mathlib.Core.Path.{◌≡◌, refl, sym, ◌∙◌, ap, ap₂}
use mathlib.Core.List.{List, [], ◌∷◌, ◌++◌}
use native.Mathlib.Nat.{suc-mul}
use native.Mathlib.Numerals.{add-one}
use native.Mathlib.Omega.{arith}
use lib.Dec.{ltb}
use lib.ListN.{length, set, length-append}
use Rattle.rows.specs.Row.{at, row}
use Rattle.rows.specs.Put.{Put}
use Rattle.rows.proofs.Puts.{put_length, put_both, put_behind, put_none, put_as}
use Rattle.rows.proofs.Rows.{length_row, row_ext}
use Rattle.sizes.specs.declared.Fault.TheVariants.{Length}
use Rattle.sizes.specs.Refusal.{refused_if}
use Rattle.order.specs.Rank.{unrank_modules, unrank_settings}
use Rattle.order.proofs.Ranks.{unrank_valid}
use Rattle.book.specs.declared.format.Stretch.{Stretch}
use Rattle.book.specs.Format.{format_one, bytes_of, entry_place_lem, body_place, entry_bytes, body_bytes, entries_bytes, bodies_bytes, Bookable, joined, book_of}
use Rattle.book.proofs.Bytes.{bytes_long}
use Rattle.book.proofs.Checks.{body_places_rise}
use Rattle.book.proofs.Books.{entries_size, bodies_size, entry_long, body_long, book_long}
use Rattle.writer.specs.Write.{Lists, stretches_in, stretch_at_lem, book_lent, room_verdict}
use Rattle.writer.specs.Asked.{OneLength, AllBookable, SlotsAsked}

-- ---- the bytes of a number

-- what is left of it when i bytes are taken off
pub rest_of : ℕ → ℕ → ℕ
rest_of zero x = x
rest_of (suc i) x = rest_of i x / 256

rest_later : (i x : ℕ) → rest_of i (x / 256) ≡ rest_of i x / 256
unfolding rest_of
rest_later zero x = refl
rest_later (suc i) x = ap (λ y. y / 256) (rest_later i x)

bytes_more : (i x : ℕ) → bytes_of (suc i) x ≡ bytes_of i x ++ ((rest_of i x % 256) ∷ [])
unfolding bytes_of rest_of
bytes_more zero x = refl
bytes_more (suc i) x =
    ap (λ ys. (x % 256) ∷ ys) (bytes_more i (x / 256) ∙ ap (λ r. bytes_of i (x / 256) ++ ((r % 256) ∷ [])) (rest_later i x))

-- its first i bytes are written
pub record Numbered (xs : List ℕ) (from number : ℕ) (ys : List ℕ) (rest i : ℕ) : Type 0 where
  pub put : Put xs from (bytes_of i number) (from + i) ys
  pub rest_is : rest ≡ rest_of i number

pub numbered_first : (xs : List ℕ) (from number : ℕ) → Numbered xs from number xs number 0
unfolding bytes_of rest_of
numbered_first xs from number = record { put = record { ends = refl; holds = (put_none xs from).holds }; rest_is = refl }

pub numbered_long : {xs ys : List ℕ} {from number rest i : ℕ} → from + i ≤ length xs → Numbered xs from number ys rest i → length ys ≡ length xs
numbered_long {number = number} {i = i} h so = put_length (omega (arith, bytes_long i number)) so.put

pub numbered_on : {xs ys : List ℕ} {from number rest i b : ℕ} → Numbered xs from number ys rest i → from + i < length xs → b ≡ rest % 256 →
    Numbered xs from number (set ys (from + i) b) (rest / 256) (i + 1)
unfolding rest_of
numbered_on {from = from} {number} {i = i} {b} so h b_is =
    let byte : b ≡ rest_of i number % 256 = b_is ∙ ap (λ r. r % 256) so.rest_is in
    let bytes : bytes_of i number ++ (b ∷ []) ≡ bytes_of (i + 1) number =
    ap (λ x. bytes_of i number ++ (x ∷ [])) byte ∙ sym (bytes_more i number) ∙ ap (λ j. bytes_of j number) (sym (add-one i)) in
    record {
      put = put_as bytes (omega arith) (put_behind b h so.put);
      rest_is = ap (λ r. r / 256) so.rest_is ∙ ap (λ j. rest_of j number) (sym (add-one i));
    }

-- ---- a row, slot by slot

module _ {xs : List ℕ} {from : ℕ} (f : ℕ → ℕ) where
  pub row_first : Put xs from (row f 0) (from + 0) xs
  unfolding row
  row_first = put_as refl (omega arith) (put_none xs from)

  pub row_long : {ys : List ℕ} (i : ℕ) → from + i ≤ length xs → Put xs from (row f i) (from + i) ys → length ys ≡ length xs
  row_long i h so = put_length (omega (arith, length_row f i)) so

  pub row_on : {ys : List ℕ} {b : ℕ} (i : ℕ) → Put xs from (row f i) (from + i) ys → from + i < length xs → b ≡ f i → Put xs from (row f (i + 1)) (from + (i + 1)) (set ys (from + i) b)
  unfolding row
  row_on {b = b} i so h b_is =
      put_as (ap (λ x. row f i ++ (x ∷ [])) b_is ∙ ap (row f) (sym (add-one i))) (omega arith) (put_behind b h so)

-- ---- the places of bodies

module _ (e : ℕ) (n : ℕ → ℕ) where
  pub place_first : body_place format_one e n 0 ≡ entry_place_lem e
  unfolding body_place
  place_first = refl

  pub place_next : (i : ℕ) → body_place format_one e n i + n i ≡ body_place format_one e n (i + 1)
  unfolding body_place format_one
  place_next i = ap (body_place format_one e n) (sym (add-one i))

  -- where no n is above a bound
  pub place_high : (most i : ℕ) → ((h : ℕ) → h < i → n h ≤ most) → body_place format_one e n i ≤ entry_place_lem e + i * most
  unfolding body_place format_one
  place_high most zero low = omega arith
  place_high most (suc i) low = omega (arith, suc-mul i most, place_high most i (λ h l. low h (omega arith)), low i (omega arith))

-- ---- an entry

pub entry_put : {xs x1 x2 x3 ys : List ℕ} {from p1 p2 p3 r n k : ℕ} (offset : ℕ) (s : Stretch) → from + 14 ≤ length xs → n ≡ s.n → k ≡ s.k →
    Put xs from (n ∷ []) p1 x1 → Put x1 p1 (k ∷ []) p2 x2 → Put x2 p2 (bytes_of 4 offset) p3 x3 → Put x3 p3 (bytes_of 8 s.count) r ys → Put xs from (entry_bytes offset s) r ys
unfolding entry_bytes
entry_put {n = n} {k} offset s room n_is k_is slots settings place count =
    let four = bytes_long 4 offset in
    let eight = bytes_long 8 s.count in
    let parts : n ∷ k ∷ (bytes_of 4 offset ++ bytes_of 8 s.count) ≡ s.n ∷ s.k ∷ (bytes_of 4 offset ++ bytes_of 8 s.count) = rw (n_is, k_is) in
    put_as parts refl
    (put_both (omega arith) (put_both (omega arith) (put_both (omega arith) slots settings) place) count)

-- ---- a body

-- the bytes of the first arrangement of a stretch
pub body_row : (s : Stretch) {m : ℕ} (M S : ℕ → ℕ) → m ≡ s.n → ((i : ℕ) → i < s.n → M i ≡ unrank_modules s.n s.k s.rank i) →
    ((i : ℕ) → i < s.n → S i ≡ unrank_settings s.n s.k s.rank i) → row (format_one.byte M S) m ≡ body_bytes format_one s
unfolding body_bytes format_one
body_row s M S long modules settings =
    ap (row (format_one.byte M S)) long ∙ row_ext _ _ s.n (λ p h. ap₂ (λ c v. c * 32 + v) (settings p h) (modules p h))

-- each fits a byte
pub body_asked : (s : Stretch) {from : ℕ} {out ms ss : List ℕ} → Bookable s → from + s.n ≤ length out → length ms ≡ s.n → length ss ≡ s.n →
    ((i : ℕ) → i < s.n → at ms i ≡ unrank_modules s.n s.k s.rank i) → ((i : ℕ) → i < s.n → at ss i ≡ unrank_settings s.n s.k s.rank i) → SlotsAsked from out ms ss
body_asked s b room long long_too modules settings =
    let valid = unrank_valid s.n s.k s.rank b.sizes.k_low b.rank_high in
    record {
      room = omega (arith, long, room);
      settings_long = long_too ∙ sym long;
      modules_low = λ i h. let l : i < s.n = omega (arith, h, long) in omega (arith, modules i l, (valid.cell i l).high, b.sizes.n_high);
      settings_low = λ i h. let l : i < s.n = omega (arith, h, long) in omega (arith, settings i l, (valid.cell i l).setting, b.sizes.k_high);
    }

-- ---- all entries, and all bodies

-- lists one behind the other, of which the first i are written
module _ {xs : List ℕ} {from : ℕ} (f : ℕ → List ℕ) where
  pub joined_first : Put xs from (joined f 0) from xs
  unfolding joined
  joined_first = put_none xs from

  pub joined_on : {ys zs : List ℕ} {end r : ℕ} (i : ℕ) → end + length (f i) ≤ length xs → Put xs from (joined f i) end ys → Put ys end (f i) r zs → Put xs from (joined f (i + 1)) r zs
  unfolding joined
  joined_on i room so more =
      put_as (ap (joined f) (sym (add-one i))) refl (put_both (omega (arith, so.ends)) so more)

  pub joined_all : {ys : List ℕ} {end i m : ℕ} → i ≡ m → Put xs from (joined f i) end ys → Put xs from (joined f m) end ys
  joined_all e so = put_as (ap (joined f) e) refl so

  pub joined_long : {ys : List ℕ} {end : ℕ} (i : ℕ) → end ≤ length xs → Put xs from (joined f i) end ys → length ys ≡ length xs
  joined_long i room so = put_length (omega (arith, so.ends)) so

module _ (l : Lists) where
  -- the first i entries, and the first i bodies
  abbrev pub entries_to : ℕ → List ℕ
  entries_to i = joined (λ j. entry_bytes (body_place format_one (stretches_in l) (λ h. (stretch_at_lem l h).n) j) (stretch_at_lem l j)) i

  abbrev pub bodies_to : ℕ → List ℕ
  bodies_to i = joined (λ j. body_bytes format_one (stretch_at_lem l j)) i

  module _ {xs : List ℕ} {from : ℕ} (room : from + 14 * stretches_in l ≤ length xs) {ys : List ℕ} {end : ℕ} (i : ℕ) (so : Put xs from (entries_to i) end ys) where
    pub entries_end : end ≡ from + 14 * i
    entries_end = so.ends ∙ ap (λ x. from + x) (entries_size format_one (stretches_in l) (stretch_at_lem l) i)

    pub entries_kept : i ≤ stretches_in l → length ys ≡ length xs
    entries_kept h = joined_long _ i (omega (arith, entries_end)) so

    pub entry_room : i < stretches_in l → end + 14 ≤ length ys
    entry_room h = omega (arith, entries_end, entries_kept (omega arith))

    pub entries_on : {zs : List ℕ} {r offset : ℕ} {s : Stretch} → i < stretches_in l → offset ≡ body_place format_one (stretches_in l) (at l.ns) i → s ≡ stretch_at_lem l i →
        Put ys end (entry_bytes offset s) r zs → Put xs from (entries_to (i + 1)) r zs
    unfolding stretch_at_lem
    entries_on {offset = offset} {s} h offset_is s_is more =
        joined_on _ i (omega (arith, entries_end, entry_long (body_place format_one (stretches_in l) (at l.ns) i) (stretch_at_lem l i))) so
        (put_as (ap₂ entry_bytes offset_is s_is) refl more)

  module _ {xs : List ℕ} {from : ℕ} (first : from ≡ entry_place_lem (stretches_in l)) (room : body_place format_one (stretches_in l) (at l.ns) (stretches_in l) ≤ length xs) {ys : List ℕ} {end : ℕ} (i : ℕ) (so : Put xs from (bodies_to i) end ys) where
    bodies_end : end ≡ body_place format_one (stretches_in l) (at l.ns) i
    unfolding stretch_at_lem
    bodies_end = omega (arith, so.ends, first, bodies_size format_one (stretches_in l) (stretch_at_lem l) i)

    -- no body is behind the end
    bodies_inside : (j : ℕ) → j ≤ stretches_in l → body_place format_one (stretches_in l) (at l.ns) j ≤ length xs
    bodies_inside j h = omega (arith, body_places_rise format_one (stretches_in l) (at l.ns) {i = j} (stretches_in l) h)

    pub bodies_kept : i ≤ stretches_in l → length ys ≡ length xs
    bodies_kept h = joined_long _ i (omega (arith, bodies_end, bodies_inside i h)) so

    body_inside : i < stretches_in l → end + (stretch_at_lem l i).n ≤ length xs
    unfolding stretch_at_lem
    body_inside h = omega (arith, bodies_end, place_next (stretches_in l) (at l.ns) i, bodies_inside (i + 1) (omega arith))

    pub body_room : {s : Stretch} → i < stretches_in l → s ≡ stretch_at_lem l i → end + s.n ≤ length ys
    body_room h s_is = rw s_is (omega (arith, body_inside h, bodies_kept (omega arith)))

    pub bodies_on : {zs : List ℕ} {r : ℕ} {s : Stretch} → i < stretches_in l → s ≡ stretch_at_lem l i → Put ys end (body_bytes format_one s) r zs → Put xs from (bodies_to (i + 1)) r zs
    unfolding format_one
    bodies_on {s = s} h s_is more =
        joined_on _ i (omega (arith, body_inside h, body_long format_one (stretch_at_lem l i))) so (put_as (ap (body_bytes format_one) s_is) refl more)

  -- how long the book is
  pub lent_long : length (book_lent l) ≡ body_place format_one (stretches_in l) (at l.ns) (stretches_in l)
  unfolding book_lent stretch_at_lem
  lent_long = book_long format_one (stretches_in l) (stretch_at_lem l)

  -- it begins with the contents
  pub contents_inside : 2 + 14 * stretches_in l ≤ length (book_lent l)
  unfolding entry_place_lem
  contents_inside =
      omega (
        arith,
        lent_long,
        place_first (stretches_in l) (at l.ns),
        body_places_rise format_one (stretches_in l) (at l.ns) {i = 0} (stretches_in l) (omega arith),
      )

  -- and is short
  pub book_short : OneLength l → AllBookable l → length (book_lent l) ≤ 2178
  unfolding entry_place_lem stretch_at_lem
  book_short one_length all =
      omega (
        arith,
        lent_long,
        one_length.few,
        place_high (stretches_in l) (at l.ns) 20 (stretches_in l) (λ h g. (all.bookable h g).sizes.n_high),
      )

  -- the check of the buffer, by that length
  pub room_told : {x : ℕ} (buffer : List ℕ) → x ≡ body_place format_one (stretches_in l) (at l.ns) (stretches_in l) →
      refused_if Length (ltb (length buffer) x) ≡ room_verdict (length (book_lent l)) buffer
  unfolding room_verdict
  room_told buffer is = ap (λ x. refused_if Length (ltb (length buffer) x)) (is ∙ sym lent_long)

-- ---- the book

pub book_put : {xs x1 x2 x3 ys : List ℕ} {p1 p2 p3 r one e : ℕ} (s : ℕ → Stretch) → length (book_of format_one e s) ≤ length xs → one ≡ 1 →
    Put xs 0 (one ∷ []) p1 x1 → Put x1 p1 (e ∷ []) p2 x2 → Put x2 p2 (entries_bytes format_one e s) p3 x3 → Put x3 p3 (bodies_bytes format_one e s) r ys → Put xs 0 (book_of format_one e s) r ys
unfolding book_of format_one
book_put {one = one} {e} s room one_is format number entries bodies =
    let fits = simp length-append at room in
    put_as (ap (λ x. (x ∷ e ∷ []) ++ entries_bytes format_one e s ++ bodies_bytes format_one e s) one_is) refl
    (put_both (omega arith) (put_both (omega arith) (put_both (omega arith) format number) entries) bodies)
