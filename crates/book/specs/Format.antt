-- 01, "Stretch books": the format. A book is a list of bytes: contents first, then bodies, in entry order without gaps, and it
-- ends with the last body. Places in a book are counted from 0, and so are the entries here: entry i is 01's entry i + 1.
use Rattle.std.specs.Prelude.{ℕ, zero, suc, ◌+◌, ◌*◌, ◌/◌, ◌%◌, ◌≤◌, ◌<◌, ◌≡◌, List, [], ◌∷◌, ◌++◌}
use Rattle.rows.specs.Row.{at, row}
use Rattle.sizes.specs.Sizes.{weight, Permitted}
use Rattle.order.specs.Rank.{unrank_modules, unrank_settings}
use Rattle.book.specs.declared.format.Stretch.{Stretch}

-- every element of a list is a byte, as in every lent buffer
unfoldable pub Bytes : List ℕ → Type 0
Bytes xs = (i : ℕ) → at xs i < 256

-- ---- numbers in bytes, least first

-- the number x in so many bytes
unfoldable pub bytes_of : ℕ → ℕ → List ℕ
bytes_of zero x = []
bytes_of (suc width) x = (x % 256) ∷ bytes_of width (x / 256)

-- the number that bytes stand for
unfoldable pub number_in : List ℕ → ℕ
number_in [] = 0
number_in (byte ∷ bytes) = byte + 256 * number_in bytes

-- ---- what formats may differ in

-- a format has its number, which is byte 0 of a book, and the shape of its bodies. A body of n slots has `size n` bytes; byte p of
-- it, counted from 0, is `byte M S p` for the modules M and the settings S. `module_in B i` and `setting_in B i` are the module and
-- the setting of slot i in a body whose byte p is B p
pub record Format : Type 0 where
  pub number : ℕ
  pub size : ℕ → ℕ
  pub byte : (ℕ → ℕ) → (ℕ → ℕ) → ℕ → ℕ
  pub module_in : (ℕ → ℕ) → ℕ → ℕ
  pub setting_in : (ℕ → ℕ) → ℕ → ℕ

-- format 1: a byte for each slot, setting × 32 + module
unfoldable pub format_one : Format
format_one = record {
  number = 1;
  size = λ n. n;
  byte = λ M S i. S i * 32 + M i;
  module_in = λ B i. B i % 32;
  setting_in = λ B i. B i / 32;
}

-- ---- places

-- the limit of the entry number
abbrev pub most_entries : ℕ
most_entries = 64

-- where entry i begins: behind the format, the entry number and i entries of 14 bytes. So this of the entry number is where the
-- contents end
unfoldable pub entry_place_lem : ℕ → ℕ
entry_place_lem i = 2 + 14 * i

-- where body i begins, in a book of e entries of which entry h has n h slots: behind the contents and the bodies before it. So
-- this of the entry number is where the book ends
unfoldable pub body_place : Format → ℕ → (ℕ → ℕ) → ℕ → ℕ
body_place format e n zero = entry_place_lem e
body_place format e n (suc i) = body_place format e n i + format.size (n i)

-- ---- the book of some stretches

-- a stretch has n, k, its start rank and its count. It may stand in a book: n and k are permitted, the rank is below T, and the
-- count is 1 to T
pub record Bookable (s : Stretch) : Type 0 where
  pub sizes : Permitted s.n s.k
  pub rank_high : s.rank < weight s.n s.k
  pub count_low : 1 ≤ s.count
  pub count_high : s.count ≤ weight s.n s.k

-- an entry, of 14 bytes: n, k, the offset of the body from the start of the book, and the count
unfoldable pub entry_bytes : ℕ → Stretch → List ℕ
entry_bytes offset s = s.n ∷ s.k ∷ (bytes_of 4 offset ++ bytes_of 8 s.count)

-- a body: the first arrangement of the stretch
unfoldable pub body_bytes : Format → Stretch → List ℕ
body_bytes format s =
    row (format.byte (unrank_modules s.n s.k s.rank) (unrank_settings s.n s.k s.rank)) (format.size s.n)

-- lists one behind the other: f 0, f 1, .. , f (m - 1)
unfoldable pub joined : (ℕ → List ℕ) → ℕ → List ℕ
joined f zero = []
joined f (suc m) = joined f m ++ f m

-- the entries of e stretches, and their bodies
abbrev pub entries_bytes : Format → ℕ → (ℕ → Stretch) → List ℕ
entries_bytes format e s = joined (λ i. entry_bytes (body_place format e (λ h. (s h).n) i) (s i)) e

abbrev pub bodies_bytes : Format → ℕ → (ℕ → Stretch) → List ℕ
bodies_bytes format e s = joined (λ i. body_bytes format (s i)) e

-- the book of e stretches: format and entry number, then the entries, then the bodies
unfoldable pub book_of : Format → ℕ → (ℕ → Stretch) → List ℕ
book_of format e s = (format.number ∷ e ∷ []) ++ entries_bytes format e s ++ bodies_bytes format e s

-- a list of bytes is well formed: it is the book of 1 to 64 stretches that may stand in one
pub record WellFormed (format : Format) (xs : List ℕ) : Type 0 where
  pub e : ℕ
  pub s : ℕ → Stretch
  pub some : 1 ≤ e
  pub few : e ≤ most_entries
  pub bookable : (i : ℕ) → i < e → Bookable (s i)
  pub bytes : xs ≡ book_of format e s
