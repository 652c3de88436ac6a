-- 01, "Stretch books" and "Numbers of refusal", 13 to 16 and 18: the reading of any bytes as a book. A book has an order of
-- refusals of its own, and is refused as a whole: what is wrong with one entry refuses every entry that is asked for.
use Rattle.std.specs.Prelude.{ℕ, zero, suc, ◌+◌, ◌-◌, true, cond, not, List, eqb, ltb, length, Ok, Err}
use Rattle.std.proofs.Math.Seq.{slice}
use Rattle.rows.specs.Row.{at}
use Rattle.rows.specs.Search.{outside}
use Rattle.sizes.specs.declared.Fault.TheVariants.{Contents, Format as WrongFormat, Entry, End, Asked}
use Rattle.sizes.specs.Refusal.{Verdict, fine, refused, first, refused_if, unless_refused}
use Rattle.sizes.specs.Sizes.{weight, sizes_verdict}
use Rattle.arrangement.specs.Check.{length_verdict, slots_verdict}
use Rattle.order.specs.Rank.{rank}
use Rattle.book.specs.Format.{Format, number_in, most_entries, entry_place_lem, body_place}

-- ---- what the bytes of a book say

-- the entry number
unfoldable pub entries_of : List ℕ → ℕ
entries_of xs = at xs 1

-- the bytes of entry i
unfoldable pub entry_of : List ℕ → ℕ → List ℕ
entry_of xs i = slice (entry_place_lem i) (entry_place_lem i + 14) xs

-- n, k, offset and count of entry i. `slice a b` are the bytes from place a on, up to place b and without it
unfoldable pub n_of : List ℕ → ℕ → ℕ
n_of xs i = at xs (entry_place_lem i)

unfoldable pub k_of : List ℕ → ℕ → ℕ
k_of xs i = at xs (entry_place_lem i + 1)

unfoldable pub offset_of : List ℕ → ℕ → ℕ
offset_of xs i = number_in (slice (entry_place_lem i + 2) (entry_place_lem i + 6) xs)

unfoldable pub count_of : List ℕ → ℕ → ℕ
count_of xs i = number_in (slice (entry_place_lem i + 6) (entry_place_lem i + 14) xs)

-- the expected offset of body i, which begins there
unfoldable pub expected : Format → List ℕ → ℕ → ℕ
expected format xs i = body_place format (entries_of xs) (n_of xs) i

-- the arrangement in body i, and its rank
unfoldable pub modules_of : Format → List ℕ → ℕ → ℕ → ℕ
modules_of format xs i = format.module_in (λ p. at xs (expected format xs i + p))

unfoldable pub settings_of : Format → List ℕ → ℕ → ℕ → ℕ
settings_of format xs i = format.setting_in (λ p. at xs (expected format xs i + p))

unfoldable pub rank_of : Format → List ℕ → ℕ → ℕ
rank_of format xs i = rank (n_of xs i) (k_of xs i) (modules_of format xs i) (settings_of format xs i)

-- ---- the checks

-- a verdict about an entry: its place is 01's number of the entry
unfoldable pub in_entry_lem : ℕ → Verdict → Verdict
in_entry_lem i (Ok done) = fine
in_entry_lem i (Err refusal) = refused refusal.fault (suc i)

-- the first that refuses of the verdicts about entries 0, 1, .. , m - 1
unfoldable pub first_of : (ℕ → Verdict) → ℕ → Verdict
first_of verdict zero = fine
first_of verdict (suc m) = first (first_of verdict m) (in_entry_lem m (verdict m))

-- 13: the book ends before a place up to which it must go
unfoldable pub cut_verdict : ℕ → List ℕ → Verdict
cut_verdict end xs = refused_if Contents (ltb (length xs) end)

-- 14: byte 0 isn't the format's number, or the entry number is 0 or above 64
unfoldable pub head_verdict : Format → List ℕ → Verdict
head_verdict format xs = refused_if WrongFormat (cond (eqb (at xs 0) format.number) (outside 1 most_entries (entries_of xs)) true)

-- 15: a count is 0 or above T
unfoldable pub book_count_verdict : ℕ → ℕ → ℕ → Verdict
book_count_verdict n k count = refused_if Entry (outside 1 (weight n k) count)

-- 1, 2, 3 and 15 of entry i: 15 where the offset isn't the expected one, or where its count is refused
unfoldable pub entry_verdict : Format → List ℕ → ℕ → Verdict
entry_verdict format xs i =
    first (sizes_verdict (n_of xs i) (k_of xs i))
    (first (refused_if Entry (not (eqb (offset_of xs i) (expected format xs i))))
    (book_count_verdict (n_of xs i) (k_of xs i) (count_of xs i)))

-- 16: the book's length isn't the end of the last body
unfoldable pub end_verdict : Format → List ℕ → Verdict
end_verdict format xs = refused_if End (not (eqb (length xs) (expected format xs (entries_of xs))))

-- all entries in order, and then the end
unfoldable pub contents_verdict : Format → List ℕ → Verdict
contents_verdict format xs = first (first_of (entry_verdict format xs) (entries_of xs)) (end_verdict format xs)

-- 5, 6 and 7 of body i
unfoldable pub body_verdict : Format → List ℕ → ℕ → Verdict
body_verdict format xs i = slots_verdict (n_of xs i) (k_of xs i) (modules_of format xs i) (settings_of format xs i)

-- the check of a book: under 2 bytes 13; 14; contents cut 13; the entries; the end; the bodies
unfoldable pub book_verdict : Format → List ℕ → Verdict
book_verdict format xs =
    first (cut_verdict 2 xs)
    (first (head_verdict format xs)
    (first (cut_verdict (entry_place_lem (entries_of xs)) xs)
    (first (contents_verdict format xs) (first_of (body_verdict format xs) (entries_of xs)))))

-- ---- the reading

-- the check of a book and of the entry asked for, 01's entry 1 to E: 18 where that is 0 or above E
unfoldable pub asked_verdict : Format → List ℕ → ℕ → Verdict
asked_verdict format xs entry = first (book_verdict format xs) (refused_if Asked (outside 1 (entries_of xs) entry))

-- and of the two lent buffers, which are to have n bytes each: 4
unfoldable pub lent_entry_verdict : Format → List ℕ → ℕ → List ℕ → List ℕ → Verdict
lent_entry_verdict format xs entry ms ss =
    first (asked_verdict format xs entry) (first (length_verdict (n_of xs (entry - 1)) ms) (length_verdict (n_of xs (entry - 1)) ss))

-- what a reading answers of the entry asked for, whose arrangement it writes: n, k, the count, and the start rank
pub record Answers : Type 0 where
  pub verdict : Verdict
  pub n : ℕ
  pub k : ℕ
  pub count : ℕ
  pub start : ℕ

unfoldable pub answers_of : Format → List ℕ → ℕ → Answers
answers_of format xs entry =
    let told : ℕ → ℕ = unless_refused (asked_verdict format xs entry) in
    record {
      verdict = asked_verdict format xs entry;
      n = told (n_of xs (entry - 1));
      k = told (k_of xs (entry - 1));
      count = told (count_of xs (entry - 1));
      start = told (rank_of format xs (entry - 1));
    }
