-- What is written reads back as it was given, since the reader's laws hold of every book of stretches that may stand in one; and a
-- book that the reader accepts is the book of the stretches that it reads off it, so written again it has equal bytes. Assumes nothing.
use Prim.Native.Nat.{ℕ, zero, suc, ◌+◌, ◌-◌, ◌*◌, ◌≤◌, ◌<◌}
use mathlib.Core.Path.{◌≡◌, refl, sym, ◌∙◌, ap}
use mathlib.Core.List.{List, [], ◌++◌, append-nil}
use native.Mathlib.Omega.{arith}
use lib.ListN.{length, take, drop, length-append}
use lib.Seq.{slice, take_at}
use Rattle.rows.proofs.Rows.{length_row, at_row}
use Rattle.std.proofs.Common.{Ok}
use Rattle.sizes.specs.Refusal.{fine, unless_refused}
use Rattle.sizes.specs.Outcome.{answered, left}
use Rattle.order.specs.Rank.{unrank_modules, unrank_settings}
use Rattle.book.specs.Format.{Bytes, format_one, bytes_of, number_in, joined, book_of}
use Rattle.book.specs.Read.{entries_of, n_of, k_of, count_of, rank_of, modules_of, settings_of, book_verdict, asked_verdict, Answers, answers_of}
use Rattle.book.proofs.Bytes.{bytes_long, number_back}
use Rattle.book.proofs.Slices.{joined_slice}
use Rattle.book.proofs.Formats.{format_one_sound}
use Rattle.book.proofs.Checks.{Checked, checked, checked_fine, asked_fine}
use Rattle.book.proofs.Books.{Laid, book_laid, laid_checked, read_entries, read_n, read_k, read_count, read_rank, read_module, read_setting, stretch_in, checked_book, checked_bookable, book_ext}
use Rattle.writer.specs.Write.{Lists, stretches_in, word_at, stretch_at_lem, book_lent, write_verdict, write_tells, write_leaves, lists_read}
use Rattle.writer.specs.Asked.{OneLength}
use Rattle.writer.proofs.Checks.{Accepted, accepted, accepted_fine}

-- ---- what is written reads back

module _ (l : Lists) (buffer : List ℕ) (passed : write_verdict l buffer ≡ fine) where
  -- what is left in the buffer is the book, of the length that is answered, and the bytes behind it as they were
  pub tells_written : write_tells l buffer ≡ Ok (length (book_lent l))
  unfolding write_tells answered
  tells_written = rw passed

  pub leaves_written : write_leaves l buffer ≡ book_lent l ++ drop (length (book_lent l)) buffer
  unfolding write_leaves left
  leaves_written = rw passed

  pub written_book : (write_tells l buffer ≡ Ok (length (book_lent l))) × (take (length (book_lent l)) (write_leaves l buffer) ≡ book_lent l)
  written_book = (tells_written, rw leaves_written (take_at (book_lent l) (drop (length (book_lent l)) buffer) (length (book_lent l)) refl))

  laid : Laid format_one (stretches_in l) (stretch_at_lem l) (book_lent l)
  unfolding book_lent
  laid = book_laid format_one (stretches_in l) (stretch_at_lem l) _ refl

  a : Accepted l buffer
  a = accepted l buffer passed

  -- the reader accepts it
  pub written_accepted : book_verdict format_one (book_lent l) ≡ fine
  written_accepted =
      sym (checked_fine format_one (book_lent l) (laid_checked format_one_sound laid a.all.bookable a.one_length.few a.some))

  module _ (i : ℕ) (h : i < stretches_in l) where
    asked_written : asked_verdict format_one (book_lent l) (i + 1) ≡ fine
    asked_written =
        asked_fine format_one (book_lent l) (i + 1) written_accepted (omega arith)
        (omega (arith, read_entries format_one_sound laid a.all.bookable a.one_length.few))

    -- and reads off entry i + 1 the stretch i that was given
    pub reads_back : answers_of format_one (book_lent l) (i + 1)
        ≡ record { verdict = fine; n = (stretch_at_lem l i).n; k = (stretch_at_lem l i).k; count = (stretch_at_lem l i).count; start = (stretch_at_lem l i).rank }
    unfolding answers_of unless_refused
    reads_back =
        let here : i + 1 - 1 ≡ i = omega arith in
        let few = a.one_length.few in
        let n_is = read_n format_one_sound laid a.all.bookable few i h in
        let k_is = read_k format_one_sound laid a.all.bookable few i h in
        let count_is = read_count format_one_sound laid a.all.bookable few i h in
        let rank_is = read_rank format_one_sound laid a.all.bookable few i h in
        rw (asked_written, here) (λ j. record { verdict = fine; n = n_is j; k = k_is j; count = count_is j; start = rank_is j })

    -- with the first arrangement of the stretch
    pub arrangement_back : (p : ℕ) → p < (stretch_at_lem l i).n →
        let s = stretch_at_lem l i in (modules_of format_one (book_lent l) i p ≡ unrank_modules s.n s.k s.rank p) × (settings_of format_one (book_lent l) i p ≡ unrank_settings s.n s.k s.rank p)
    arrangement_back p g = (
      read_module format_one_sound laid a.all.bookable a.one_length.few i h p g,
      read_setting format_one_sound laid a.all.bookable a.one_length.few i h p g,
    )

-- ---- a book read and written again

-- number i of a list of numbers, each in eight bytes
words_long : (f : ℕ → ℕ) (m : ℕ) → length (joined (λ i. bytes_of 8 (f i)) m) ≡ 8 * m
unfolding joined
words_long f zero = refl
words_long f (suc m) = omega (arith, words_long f m, length-append (joined (λ i. bytes_of 8 (f i)) m) (bytes_of 8 (f m)), bytes_long 8 (f m))

word_back : (f : ℕ → ℕ) (m i : ℕ) → i < m → f i < 18446744073709551616 → word_at (joined (λ h. bytes_of 8 (f h)) m) i ≡ f i
unfolding word_at
word_back f m i l small =
    ap number_in
    (ap (slice (8 * i) (8 * i + 8)) (sym (append-nil (joined (λ h. bytes_of 8 (f h)) m))) ∙
    joined_slice [] [] (λ h. bytes_of 8 (f h)) m l (words_long f i) (bytes_long 8 (f i))) ∙
    number_back 8 (f i) small

module _ (xs : List ℕ) (bytes : Bytes xs) (passed : book_verdict format_one xs ≡ fine) where
  abbrev l : Lists
  l = lists_read xs

  c : Checked format_one xs
  c = checked format_one xs passed

  as_many : stretches_in l ≡ entries_of xs
  unfolding lists_read
  as_many = length_row _ (entries_of xs)

  -- the reader answers what the entry says
  told : (i : ℕ) → i < entries_of xs → answers_of format_one xs (i + 1) ≡ record { verdict = fine; n = n_of xs i; k = k_of xs i; count = count_of xs i; start = rank_of format_one xs i }
  unfolding answers_of unless_refused
  told i h =
      let here : i + 1 - 1 ≡ i = omega arith in rw (asked_fine format_one xs (i + 1) passed (omega arith) (omega (arith, h)), here)

  -- and the lists have it
  read_listed : (i : ℕ) → i < entries_of xs → stretch_at_lem l i ≡ stretch_in format_one xs i
  unfolding lists_read stretch_at_lem stretch_in
  read_listed i h =
      let b = checked_bookable format_one_sound xs bytes c i h in
      let answers : ℕ → Answers = λ j. answers_of format_one xs (j + 1) in
      let start_is : (answers i).start ≡ rank_of format_one xs i = ap (λ a. a.start) (told i h) in
      let of_count : (answers i).count ≡ count_of xs i = ap (λ a. a.count) (told i h) in
      let n_is = at_row (λ j. (answers j).n) (entries_of xs) i h ∙ ap (λ a. a.n) (told i h) in
      let k_is = at_row (λ j. (answers j).k) (entries_of xs) i h ∙ ap (λ a. a.k) (told i h) in
      let rank_is = word_back (λ j. (answers j).start) (entries_of xs) i h (unfold stretch_in in omega (arith, start_is, b.rank_high, b.sizes.few)) ∙ start_is in
      let count_is = word_back (λ j. (answers j).count) (entries_of xs) i h (unfold stretch_in in omega (arith, of_count, b.count_high, b.sizes.few)) ∙ of_count in
      λ j. record { n = n_is j; k = k_is j; rank = rank_is j; count = count_is j }

  same_book : book_lent l ≡ xs
  unfolding book_lent
  same_book =
      ap (λ e. book_of format_one e (stretch_at_lem l)) as_many ∙ book_ext format_one (entries_of xs) (stretch_at_lem l) (stretch_in format_one xs) read_listed ∙
      sym (checked_book format_one_sound xs bytes c)

  listed : OneLength l
  unfolding lists_read
  listed = record {
    few = omega (arith, as_many, c.few);
    ks_long = length_row _ (entries_of xs) ∙ sym as_many;
    ranks_long = words_long _ (entries_of xs) ∙ ap (λ e. 8 * e) (sym as_many);
    counts_long = words_long _ (entries_of xs) ∙ ap (λ e. 8 * e) (sym as_many);
  }

  -- and the writer accepts them
  pub rewriting_accepted : (buffer : List ℕ) → length xs ≤ length buffer → write_verdict l buffer ≡ fine
  rewriting_accepted buffer room = accepted_fine l buffer (record {
    one_length = listed;
    all = record {
      bookable = λ i h. let g : i < entries_of xs = omega (arith, as_many, h) in rw (read_listed i g) (checked_bookable format_one_sound xs bytes c i g);
    };
    some = omega (arith, as_many, c.some);
    room = rw same_book room;
  })

  -- and writes the book that was read
  pub rewritten : (buffer : List ℕ) → length xs ≤ length buffer →
      (write_tells l buffer ≡ Ok (length xs)) × (write_leaves l buffer ≡ xs ++ drop (length xs) buffer)
  rewritten buffer room =
      let done = rewriting_accepted buffer room in
      (tells_written l buffer done ∙ ap (λ ys. Ok (length ys)) same_book, leaves_written l buffer done ∙ ap (λ ys. ys ++ drop (length ys) buffer) same_book)
