-- What the functions on boards ask of their callers, who have made the checks.
use Rattle.std.specs.Prelude.{ℕ, suc, ◌*◌, ◌≤◌, ◌<◌, ◌≡◌, List, length}
use Rattle.sizes.specs.Sizes.{Permitted}
use Rattle.board.specs.Board.{place}

-- two buffers for a board of n digits
pub record LentBoard (n k : ℕ) (cs fs : List ℕ) : Type 0 where
  pub sizes : Permitted n k
  pub counters : length cs ≡ n
  pub pointers : length fs ≡ suc n

-- a row by value whose digits 1 to n are in their ranges
pub record DigitsAsked (n k : ℕ) (ds : List ℕ) : Type 0 where
  pub each : (j : ℕ) → 1 ≤ j → j ≤ n → place ds j < k * j
