-- W-201, the writing of a book: some stretches, lent as four lists of one length, and a buffer to write their book in. The lists are
-- bytes: n and k have one byte each, rank and count eight bytes each, least first. Stretches are counted from 0 here, so that
-- stretch i is 01's i + 1.
use Rattle.std.specs.Prelude.{ℕ, ◌+◌, ◌*◌, List, ◌++◌, ltb, length, drop, Result}
use Rattle.std.proofs.Math.Seq.{slice}
use Rattle.rows.specs.Row.{at, row}
use Rattle.rows.specs.Search.{outside}
use Rattle.sizes.specs.declared.Fault.TheVariants.{Length, Format}
use Rattle.sizes.specs.declared.Refusal.{Refusal}
use Rattle.sizes.specs.Refusal.{Verdict, first, refused_if}
use Rattle.sizes.specs.Outcome.{answered, left}
use Rattle.arrangement.specs.Check.{length_verdict}
use Rattle.order.specs.Check.{start_verdict}
use Rattle.book.specs.declared.format.Stretch.{Stretch}
use Rattle.writer.specs.declared.lists.Lists.{Lists as LentLists}
use Rattle.book.specs.Format.{bytes_of, number_in, format_one, most_entries, joined, book_of}
use Rattle.book.specs.Read.{entries_of, first_of, book_count_verdict, Answers, answers_of}

-- ---- what is lent

-- the lists of n, of k, of start ranks and of counts
pub record Lists : Type 0 where
  pub ns : List ℕ
  pub ks : List ℕ
  pub ranks : List ℕ
  pub counts : List ℕ

abbrev pub lists : List ℕ → List ℕ → List ℕ → List ℕ → Lists
lists ns ks ranks counts = record { ns = ns; ks = ks; ranks = ranks; counts = counts }

-- what code is lent
abbrev pub lent : LentLists → Lists
lent l = lists l.ns.now l.ks.now l.ranks.now l.counts.now

-- how many stretches there are
abbrev pub stretches_in : Lists → ℕ
stretches_in l = length l.ns

-- number i of a list whose numbers have eight bytes each
unfoldable pub word_at : List ℕ → ℕ → ℕ
word_at xs i = number_in (slice (8 * i) (8 * i + 8) xs)

-- stretch i
unfoldable pub stretch_at_lem : Lists → ℕ → Stretch
stretch_at_lem l i = record { n = at l.ns i; k = at l.ks i; rank = word_at l.ranks i; count = word_at l.counts i }

-- the book of all of them
unfoldable pub book_lent : Lists → List ℕ
book_lent l = book_of format_one (stretches_in l) (stretch_at_lem l)

-- ---- the checks

-- 4 first, where the four lists differ in length
unfoldable pub lists_verdict : Lists → Verdict
lists_verdict l =
    first (length_verdict (stretches_in l) l.ks)
    (first (length_verdict (8 * stretches_in l) l.ranks) (length_verdict (8 * stretches_in l) l.counts))

-- 14 for no stretch or more than 64
unfoldable pub few_verdict : ℕ → Verdict
few_verdict e = refused_if Format (outside 1 most_entries e)

-- 1, 2, 3, 8 and 15 of a stretch
unfoldable pub stretch_verdict : Stretch → Verdict
stretch_verdict s = first (start_verdict s.n s.k s.rank) (book_count_verdict s.n s.k s.count)

-- then 4, for a buffer shorter than the book
unfoldable pub room_verdict : ℕ → List ℕ → Verdict
room_verdict long buffer = refused_if Length (ltb (length buffer) long)

-- the check of any four lists and of any buffer: per stretch the place is 01's number of the stretch
unfoldable pub write_verdict : Lists → List ℕ → Verdict
write_verdict l buffer =
    first (lists_verdict l)
    (first (few_verdict (stretches_in l))
    (first (first_of (λ i. stretch_verdict (stretch_at_lem l i)) (stretches_in l)) (room_verdict (length (book_lent l)) buffer)))

-- ---- what the writing answers and leaves

-- the book's length, or the refusal
unfoldable pub write_tells : Lists → List ℕ → Result ℕ Refusal
write_tells l buffer = answered (write_verdict l buffer) (length (book_lent l))

-- the book, and the bytes behind it as they were
unfoldable pub write_leaves : Lists → List ℕ → List ℕ
write_leaves l buffer = left (write_verdict l buffer) buffer (book_lent l ++ drop (length (book_lent l)) buffer)

-- ---- a book read and written again

-- the four lists of what the reader answers of each entry of a book
unfoldable pub lists_read : List ℕ → Lists
lists_read xs =
    let e : ℕ = entries_of xs in
    let told : ℕ → Answers = λ i. answers_of format_one xs (i + 1) in
    lists (row (λ i. (told i).n) e) (row (λ i. (told i).k) e) (joined (λ i. bytes_of 8 (told i).start) e) (joined (λ i. bytes_of 8 (told i).count) e)
