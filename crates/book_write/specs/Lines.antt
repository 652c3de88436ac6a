-- The input of the writer of books, a program beside W-201's call: a line for each stretch, in the grammar of 01's listing. Lines are
-- counted from 0 here, so that line i is the planner's line i + 1.
use Rattle.std.specs.Prelude.{ℕ, zero, suc, ◌+◌, ◌*◌, ◌≤◌, ◌<◌, ◌≡◌, List, [], ◌++◌, length, take, drop, Result, Ok, Err, None}
use Rattle.rows.specs.Row.{at}
use Rattle.rows.specs.Search.{if_lt}
use Rattle.sizes.specs.declared.Fault.TheVariants.{Line}
use Rattle.sizes.specs.declared.Refusal.{Refusal}
use Rattle.sizes.specs.Refusal.{Verdict}
use Rattle.sizes.specs.Outcome.{answered, left}
use Rattle.line.specs.Line.{Says, Reads, line_long}
use Rattle.writer.specs.Write.{Lists, lists, word_at, book_lent, write_verdict}

-- ---- lines

-- what follows the first i lines. A line ends behind its newline, and the last one with the input
unfoldable pub behind : ℕ → List ℕ → List ℕ
behind zero xs = xs
behind (suc i) xs = drop (line_long (behind i xs)) (behind i xs)

-- line i, with its newline
unfoldable pub line_at : ℕ → List ℕ → List ℕ
line_at i xs = take (line_long (behind i xs)) (behind i xs)

-- at most so many lines are looked at
abbrev pub most_lines : ℕ
most_lines = 65

-- ---- the stretches of lines, in four lists

-- a number in a byte: 255 where it doesn't fit
unfoldable pub in_byte_lem : ℕ → ℕ
in_byte_lem x = if_lt 255 x 255 x

-- the lists have at place i what line i says
pub record Held (xs ns ks ranks counts : List ℕ) (i : ℕ) : Type 0 where
  pub n : ℕ
  pub k : ℕ
  pub says : Says (line_at i xs) n k (word_at ranks i) (word_at counts i)
  pub n_is : at ns i ≡ in_byte_lem n
  pub k_is : at ks i ≡ in_byte_lem k

-- so many stretches of the lists
abbrev pub listed : ℕ → List ℕ → List ℕ → List ℕ → List ℕ → Lists
listed m ns ks ranks counts = lists (take m ns) (take m ks) (take (8 * m) ranks) (take (8 * m) counts)

-- ---- what is made of any input

-- all its lines say stretches, and no list is too short for so many; of more than 64 lines, the first 65
pub record Taking (xs ns ks ranks counts : List ℕ) (m : ℕ) : Type 0 where
  pub few : m ≤ most_lines
  pub ns_enough : m ≤ length ns
  pub ks_enough : m ≤ length ks
  pub ranks_enough : 8 * m ≤ length ranks
  pub counts_enough : 8 * m ≤ length counts
  pub held : (i : ℕ) → i < m → Held xs ns ks ranks counts i
  pub all : m < most_lines → behind m xs ≡ []

-- or this line is the first that says none
pub record Failing (xs ns ks ranks counts : List ℕ) (line : ℕ) : Type 0 where
  pub i : ℕ
  pub is : line ≡ i + 1
  pub few : i < most_lines
  pub held : (h : ℕ) → h < i → Held xs ns ks ranks counts h
  pub some : 1 ≤ length (behind i xs)
  pub bad : Reads (line_at i xs) None

-- what is taken of the input xs: so many stretches in the four lists, or a line that is refused
unfoldable pub Takes : List ℕ → List ℕ → List ℕ → List ℕ → List ℕ → Result ℕ Refusal → Type 0
Takes xs ns ks ranks counts (Ok m) = Taking xs ns ks ranks counts m
Takes xs ns ks ranks counts (Err refusal) = (refusal.fault ≡ Line) × Failing xs ns ks ranks counts refusal.place

-- ---- what is printed of it

-- 17 first, with the line's number for place, and then what the writer refuses
unfoldable pub taken_verdict : Result ℕ Refusal → Lists → List ℕ → Verdict
taken_verdict (Err refusal) l buffer = Err refusal
taken_verdict (Ok m) l buffer = write_verdict (listed m l.ns l.ks l.ranks l.counts) buffer

-- the book of the stretches that were taken
unfoldable pub taken_book : Result ℕ Refusal → Lists → List ℕ
taken_book (Err refusal) l = []
taken_book (Ok m) l = book_lent (listed m l.ns l.ks l.ranks l.counts)

-- of any input xs the answer is the length of that book, or the refusal, from lists that have what the lines of xs say. The whole buffer
-- is said: the book is written from its first byte on, and the bytes behind it are as they were; where xs is refused, all of them are
pub record Answers (xs before : List ℕ) (r : Result ℕ Refusal) (after : List ℕ) : Type 0 where
  pub l : Lists
  pub taken : Result ℕ Refusal
  pub takes : Takes xs l.ns l.ks l.ranks l.counts taken
  pub answer_is : r ≡ answered (taken_verdict taken l before) (length (taken_book taken l))
  pub after_is : after ≡ left (taken_verdict taken l before) before (taken_book taken l ++ drop (length (taken_book taken l)) before)

-- and what is to be printed of any input xs, from such lists: the verdict, and the book, or no byte where xs is refused. What they leave
-- on the streams is `print`'s promise
pub record Shows (xs before : List ℕ) (v : Verdict) (text : List ℕ) : Type 0 where
  pub l : Lists
  pub taken : Result ℕ Refusal
  pub takes : Takes xs l.ns l.ks l.ranks l.counts taken
  pub verdict_is : v ≡ taken_verdict taken l before
  pub text_is : text ≡ left v [] (taken_book taken l)
