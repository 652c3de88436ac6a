-- 01, "Worked arrangements": the cases marked *, as one list. A case says what definitions come to; an arrangement is two lists
-- there, modules and settings by slot.
use Rattle.std.specs.Prelude.{ℕ, List, [], ◌∷◌, ◌++◌, length}
use Rattle.rows.specs.Row.{at, row}
use Rattle.sizes.specs.Refusal.{number_of, place_of}
use Rattle.sizes.specs.Sizes.{weight}
use Rattle.arrangement.specs.Check.{lent_verdict}
use Rattle.flip.specs.Flip.{flipped_modules, flipped_settings}
use Rattle.order.specs.Rank.{rank, unrank_modules, unrank_settings}
use Rattle.order.specs.Digits.{digit, flip_out}
use Rattle.look.specs.Look.{look}
use Rattle.board.specs.Board.{pointers}
use Rattle.step.specs.Step.{step_flip}
use Rattle.stretch.specs.Pair.{pair_count}

pub data Case : Type 0 where
  -- n, k: T
  total : ℕ → ℕ → ℕ → Case
  -- n, k, an arrangement: its rank
  ranked : ℕ → ℕ → List ℕ → List ℕ → ℕ → Case
  -- n, k, an arrangement: the length of the flip out of it
  leaving : ℕ → ℕ → List ℕ → List ℕ → ℕ → Case
  -- k, a length, an arrangement: the arrangement after that flip
  flipping : ℕ → ℕ → List ℕ → List ℕ → List ℕ → List ℕ → Case
  -- n, k, a start rank, a count, v, c, w, e: the pair count
  counting : ℕ → ℕ → ℕ → ℕ → ℕ → ℕ → ℕ → ℕ → ℕ → Case
  -- n, k, two buffers: the number and the place of the refusal
  refusing : ℕ → ℕ → List ℕ → List ℕ → ℕ → ℕ → Case

-- what the definitions come to in a case, as numbers. A rank is told both ways, from the arrangement and to it, and a flip in all
-- three, by looking, from the digits of the rank and from the board of the rank
unfoldable pub comes_to : Case → List ℕ
comes_to (total n k t) = weight n k ∷ []
comes_to (ranked n k ms ss r) = rank n k (at ms) (at ss) ∷ row (unrank_modules n k r) n ++ row (unrank_settings n k r) n
comes_to (leaving n k ms ss j) =
    look n k (at ms) (at ss) ∷ flip_out n k (rank n k (at ms) (at ss)) ∷ step_flip n k (pointers n k (digit k (rank n k (at ms) (at ss)))) ∷ []
comes_to (flipping k j ms ss ms' ss') = row (flipped_modules j (at ms)) (length ms) ++ row (flipped_settings k j (at ss)) (length ss)
comes_to (counting n k r t v c w e x) = pair_count n k r t v c w e ∷ []
comes_to (refusing n k ms ss number place) = number_of (lent_verdict n k ms ss) ∷ place_of (lent_verdict n k ms ss) ∷ []

-- what 01 says that they come to
unfoldable pub said : Case → List ℕ
said (total n k t) = t ∷ []
said (ranked n k ms ss r) = r ∷ ms ++ ss
said (leaving n k ms ss j) = j ∷ j ∷ j ∷ []
said (flipping k j ms ss ms' ss') = ms' ++ ss'
said (counting n k r t v c w e x) = x ∷ []
said (refusing n k ms ss number place) = number ∷ place ∷ []

-- the cases marked *, in 01's order
unfoldable pub starred : List Case
starred =
    -- n = 1, k = 1: T = 1, the flip is 1 and returns home
    total 1 1 1
    ∷ leaving 1 1 (1 ∷ []) (0 ∷ []) 1
    ∷ flipping 1 1 (1 ∷ []) (0 ∷ []) (1 ∷ []) (0 ∷ [])
    -- n = 2, k = 2, ranks 0 to 7
    ∷ ranked 2 2 (1 ∷ 2 ∷ []) (0 ∷ 0 ∷ []) 0
    ∷ ranked 2 2 (1 ∷ 2 ∷ []) (1 ∷ 0 ∷ []) 1
    ∷ ranked 2 2 (2 ∷ 1 ∷ []) (1 ∷ 0 ∷ []) 2
    ∷ ranked 2 2 (2 ∷ 1 ∷ []) (0 ∷ 0 ∷ []) 3
    ∷ ranked 2 2 (1 ∷ 2 ∷ []) (1 ∷ 1 ∷ []) 4
    ∷ ranked 2 2 (1 ∷ 2 ∷ []) (0 ∷ 1 ∷ []) 5
    ∷ ranked 2 2 (2 ∷ 1 ∷ []) (0 ∷ 1 ∷ []) 6
    ∷ ranked 2 2 (2 ∷ 1 ∷ []) (1 ∷ 1 ∷ []) 7
    -- n = 2, k = 3: 2:1 1:0 has rank 3; 2:2 1:2 has rank 17 and closes with flip 2
    ∷ ranked 2 3 (2 ∷ 1 ∷ []) (1 ∷ 0 ∷ []) 3
    ∷ ranked 2 3 (2 ∷ 1 ∷ []) (2 ∷ 2 ∷ []) 17
    ∷ leaving 2 3 (2 ∷ 1 ∷ []) (2 ∷ 2 ∷ []) 2
    ∷ flipping 3 2 (2 ∷ 1 ∷ []) (2 ∷ 2 ∷ []) (1 ∷ 2 ∷ []) (0 ∷ 0 ∷ [])
    -- k = 3, of 001
    ∷ flipping 3 4 (7 ∷ 1 ∷ 6 ∷ 5 ∷ 3 ∷ 4 ∷ 2 ∷ []) (0 ∷ 2 ∷ 1 ∷ 0 ∷ 1 ∷ 1 ∷ 1 ∷ []) (5 ∷ 6 ∷ 1 ∷ 7 ∷ 3 ∷ 4 ∷ 2 ∷ []) (1 ∷ 2 ∷ 0 ∷ 1 ∷ 1 ∷ 1 ∷ 1 ∷ [])
    -- k = 2, of 002, counted from 0
    ∷ ranked 6 2 (1 ∷ 4 ∷ 3 ∷ 6 ∷ 5 ∷ 2 ∷ []) (0 ∷ 1 ∷ 0 ∷ 1 ∷ 0 ∷ 0 ∷ []) 18227
    ∷ leaving 6 2 (1 ∷ 4 ∷ 3 ∷ 6 ∷ 5 ∷ 2 ∷ []) (0 ∷ 1 ∷ 0 ∷ 1 ∷ 0 ∷ 0 ∷ []) 2
    -- k = 1, of 003
    ∷ ranked 7 1 (3 ∷ 7 ∷ 6 ∷ 4 ∷ 5 ∷ 1 ∷ 2 ∷ []) (0 ∷ 0 ∷ 0 ∷ 0 ∷ 0 ∷ 0 ∷ 0 ∷ []) 3653
    ∷ leaving 7 1 (3 ∷ 7 ∷ 6 ∷ 4 ∷ 5 ∷ 1 ∷ 2 ∷ []) (0 ∷ 0 ∷ 0 ∷ 0 ∷ 0 ∷ 0 ∷ 0 ∷ []) 4
    -- n = 3, k = 3: T = 162
    ∷ total 3 3 162
    -- n = 2, k = 2, stretch 0: pair 1:0, 2:0 counts 1 with t = 8, and 2 with t = 9
    ∷ counting 2 2 0 8 1 0 2 0 1
    ∷ counting 2 2 0 9 1 0 2 0 2
    -- modules 1 3 3 with a setting out of range: 6, place 3; modules 3 3 4 with n = 3: 5, place 3
    ∷ refusing 3 2 (1 ∷ 3 ∷ 3 ∷ []) (0 ∷ 2 ∷ 0 ∷ []) 6 3
    ∷ refusing 3 2 (3 ∷ 3 ∷ 4 ∷ []) (0 ∷ 0 ∷ 0 ∷ []) 5 3
    ∷ []
