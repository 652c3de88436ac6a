-- The lines of the programs, as bytes of ASCII: those of 01's listing, and those of a book's entries and of a refusal with its
-- place. A space is 32, a colon 58, and the newline that ends each line 10.
use Rattle.std.specs.Prelude.{ℕ, zero, suc, List, [], ◌∷◌, ◌++◌}
use Rattle.line.specs.Decimal.{decimal, ended, numbers_line}

-- the words `walk `, `next ` and `refused `
unfoldable pub walk_word : List ℕ
walk_word = 119 ∷ 97 ∷ 108 ∷ 107 ∷ 32 ∷ []

unfoldable pub next_word : List ℕ
next_word = 110 ∷ 101 ∷ 120 ∷ 116 ∷ 32 ∷ []

unfoldable pub refused_word : List ℕ
refused_word = 114 ∷ 101 ∷ 102 ∷ 117 ∷ 115 ∷ 101 ∷ 100 ∷ 32 ∷ []

-- the head line
unfoldable pub head_line : ℕ → ℕ → ℕ → ℕ → List ℕ
head_line n k r t = walk_word ++ numbers_line n k r t

-- a slot: a space, its module v, a colon, its setting c
unfoldable pub slot : ℕ → ℕ → List ℕ
slot v c = 32 ∷ (ended v 58 ++ decimal c)

-- the first n slots, of the modules M and the settings S
unfoldable pub slots : ℕ → (ℕ → ℕ) → (ℕ → ℕ) → List ℕ
slots zero M S = []
slots (suc i) M S = slots i M S ++ slot (M i) (S i)

-- the line of an arrangement: its rank, the flip out of it, and its n slots
unfoldable pub slot_line : ℕ → ℕ → ℕ → (ℕ → ℕ) → (ℕ → ℕ) → List ℕ
slot_line rank flip n M S = ended rank 32 ++ decimal flip ++ slots n M S ++ (10 ∷ [])

-- the line of the rank that follows
unfoldable pub next_line : ℕ → List ℕ
next_line rank = next_word ++ ended rank 10

-- the line of a refused input
unfoldable pub refused_line : ℕ → List ℕ
refused_line number = refused_word ++ ended number 10

-- the line of a refusal with its place
unfoldable pub refused_at_line : ℕ → ℕ → List ℕ
refused_at_line number place = refused_word ++ ended number 32 ++ ended place 10

-- the line of an entry of a book: n and k, and then its count, its rank and its n slots, which stand as rank, flip and slots do in
-- the line of an arrangement
unfoldable pub entry_line : ℕ → ℕ → ℕ → ℕ → (ℕ → ℕ) → (ℕ → ℕ) → List ℕ
entry_line n k count rank M S = ended n 32 ++ ended k 32 ++ slot_line count rank n M S

-- no line but an entry's has more bytes: a rank and a flip of 20 digits each, 20 slots of 8 bytes each, a space and a newline
abbrev pub line_most : ℕ
line_most = 202

-- and an entry's has two numbers more, with a space each
abbrev pub entry_most : ℕ
entry_most = 244
