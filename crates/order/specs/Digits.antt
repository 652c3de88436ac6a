-- 01, "Rank and its digits": the digits of a rank, the flip out of it, and the rank that follows.
use Rattle.std.specs.Prelude.{ℕ, zero, suc, ◌+◌, ◌-◌, ◌*◌, ◌/◌, ◌%◌, Bool, ltb}
use Rattle.rows.specs.Search.{or_else, lowest}
use Rattle.sizes.specs.Sizes.{weight}

-- digit j of rank r, j from 1: it weighs k ^ (j - 1) × (j - 1)!, and lies in 0 to k × j - 1
unfoldable pub digit : ℕ → ℕ → ℕ → ℕ
digit k r zero = 0
digit k r (suc m) = r / weight m k % (k * suc m)

-- whether digit i + 1 is below k × (i + 1) - 1
unfoldable pub open_digit : ℕ → ℕ → ℕ → Bool
open_digit k r i = ltb (digit k r (suc i)) (k * suc i - 1)

-- the length of the flip out of rank r: the smallest j with digit j below k × j - 1, or n where there is none
unfoldable pub flip_out : ℕ → ℕ → ℕ → ℕ
flip_out n k r = or_else (lowest (open_digit k r) n) n

-- the rank after r: 0 after the last
unfoldable pub next_rank : ℕ → ℕ → ℕ → ℕ
next_rank n k r = (r + 1) % weight n k

-- the number that the digits d 1 to d n stand for, each times its weight
unfoldable pub of_digits : ℕ → ℕ → (ℕ → ℕ) → ℕ
of_digits zero k d = 0
of_digits (suc m) k d = d (suc m) * weight m k + of_digits m k d
