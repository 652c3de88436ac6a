-- The lines of 01's example, of its input `2 2 6 3`, are the definitions' lines, byte by byte; so are the lines of an entry and of a
-- refusal with its place, and the largest number in decimal.
-- Each is computed. Assumes nothing.
use mathlib.Core.Path.{◌≡◌, refl}
use mathlib.Core.List.{[], ◌∷◌}
use Rattle.rows.specs.Row.{at}
use Rattle.line.specs.Decimal.{digits, decimal, ended, numbers_line}
use Rattle.text.specs.Text.{walk_word, next_word, refused_word, head_line, slot, slots, slot_line, next_line, refused_line, refused_at_line, entry_line}

-- `2 2 6 3`, a newline
pub input : numbers_line 2 2 6 3 ≡ 50 ∷ 32 ∷ 50 ∷ 32 ∷ 54 ∷ 32 ∷ 51 ∷ 10 ∷ []
unfolding numbers_line ended decimal digits
input = refl

-- `walk 2 2 6 3`
pub head : head_line 2 2 6 3 ≡ 119 ∷ 97 ∷ 108 ∷ 107 ∷ 32 ∷ 50 ∷ 32 ∷ 50 ∷ 32 ∷ 54 ∷ 32 ∷ 51 ∷ 10 ∷ []
unfolding head_line walk_word numbers_line ended decimal digits
head = refl

-- `6 1 2:0 1:1`
pub first : slot_line 6 1 2 (at (2 ∷ 1 ∷ [])) (at (0 ∷ 1 ∷ [])) ≡ 54 ∷ 32 ∷ 49 ∷ 32 ∷ 50 ∷ 58 ∷ 48 ∷ 32 ∷ 49 ∷ 58 ∷ 49 ∷ 10 ∷ []
unfolding slot_line slots slot ended decimal digits
first = refl

-- `next 1`
pub next : next_line 1 ≡ 110 ∷ 101 ∷ 120 ∷ 116 ∷ 32 ∷ 49 ∷ 10 ∷ []
unfolding next_line next_word ended decimal digits
next = refl

-- `refused 17`
pub refused : refused_line 17 ≡ 114 ∷ 101 ∷ 102 ∷ 117 ∷ 115 ∷ 101 ∷ 100 ∷ 32 ∷ 49 ∷ 55 ∷ 10 ∷ []
unfolding refused_line refused_word ended decimal digits
refused = refl

-- `refused 15 2`
pub refused_at_shown : refused_at_line 15 2 ≡ 114 ∷ 101 ∷ 102 ∷ 117 ∷ 115 ∷ 101 ∷ 100 ∷ 32 ∷ 49 ∷ 53 ∷ 32 ∷ 50 ∷ 10 ∷ []
unfolding refused_at_line refused_word ended decimal digits
refused_at_shown = refl

-- `2 2 3 6 2:0 1:1`
pub entry : entry_line 2 2 3 6 (at (2 ∷ 1 ∷ [])) (at (0 ∷ 1 ∷ [])) ≡ 50 ∷ 32 ∷ 50 ∷ 32 ∷ 51 ∷ 32 ∷ 54 ∷ 32 ∷ 50 ∷ 58 ∷ 48 ∷ 32 ∷ 49 ∷ 58 ∷ 49 ∷ 10 ∷ []
unfolding entry_line slot_line slots slot ended decimal digits
entry = refl

-- 2 ^ 64 - 1
pub largest : decimal 18446744073709551615 ≡ 49 ∷ 56 ∷ 52 ∷ 52 ∷ 54 ∷ 55 ∷ 52 ∷ 52 ∷ 48 ∷ 55 ∷ 51 ∷ 55 ∷ 48 ∷ 57 ∷ 53 ∷ 53 ∷ 49 ∷ 54 ∷ 49 ∷ 53 ∷ []
unfolding decimal digits
largest = refl
