-- 01, "The counter board": the board of a rank, as two functions of its digits d and of the place j, counted from 1. A lent board
-- is two buffers: counters c_1 .. c_n, and pointers f_1 .. f_(n + 1).
use Rattle.std.specs.Prelude.{ℕ, zero, suc, ◌-◌, ◌*◌, ◌≡◌, Bool, true, false, not, cond, List, ltb, eqb}
use Rattle.rows.specs.Row.{at, row}
use Rattle.sizes.specs.Outcome.{Outcome, outcome}
use Rattle.order.specs.Check.{lent_rank_verdict}
use Rattle.order.specs.Digits.{digit}

-- c_j, f_j or d_j of a row
abbrev pub place : List ℕ → ℕ → ℕ
place xs j = at xs (j - 1)

-- s: 1, or 2 where k is 1
unfoldable pub lowest_digit_lem : ℕ → ℕ
lowest_digit_lem k = cond (eqb k 1) 2 1

-- digit j is full: j is s or above, and the digit is k × j - 1
unfoldable pub full : ℕ → (ℕ → ℕ) → ℕ → Bool
full k d j = cond (ltb j (lowest_digit_lem k)) false (eqb (d j) (k * j - 1))

-- c_j: digit j, or 0 where it is full or j is below s
unfoldable pub counter : ℕ → (ℕ → ℕ) → ℕ → ℕ
counter k d j = cond (ltb j (lowest_digit_lem k)) 0 (cond (full k d j) 0 (d j))

-- digit j begins a run of full digits: it is full, and j is s or digit j - 1 is not full
unfoldable pub begins : ℕ → (ℕ → ℕ) → ℕ → Bool
begins k d j = cond (full k d j) (cond (eqb j (lowest_digit_lem k)) true (not (full k d (j - 1)))) false

-- the first place after the run of full digits from j on, of which m can be left
unfoldable pub run_end_lem : ℕ → ℕ → (ℕ → ℕ) → ℕ → ℕ
run_end_lem zero k d j = j
run_end_lem (suc m) k d j = cond (full k d j) (run_end_lem m k d (suc j)) j

-- f_j: j, except where j begins a run of full digits: there it is the first place after the run, n + 1 where that reaches the end
unfoldable pub pointer : ℕ → ℕ → (ℕ → ℕ) → ℕ → ℕ
pointer n k d j = cond (begins k d j) (run_end_lem (suc n - j) k d j) j

-- all counters, and all pointers, of the digits d
unfoldable pub counters : ℕ → ℕ → (ℕ → ℕ) → List ℕ
counters n k d = row (λ i. counter k d (suc i)) n

unfoldable pub pointers : ℕ → ℕ → (ℕ → ℕ) → List ℕ
pointers n k d = row (λ i. pointer n k d (suc i)) (suc n)

-- two buffers hold the board of rank r
pub record IsBoard (n k r : ℕ) (cs fs : List ℕ) : Type 0 where
  pub counters_are : cs ≡ counters n k (digit k r)
  pub pointers_are : fs ≡ pointers n k (digit k r)

-- what the writing of the board of a rank leaves
unfoldable pub board_leaves : ℕ → ℕ → ℕ → List ℕ → List ℕ → Outcome Unit
board_leaves n k r cs fs =
    outcome (lent_rank_verdict n k r cs 1 fs) tt cs fs (counters n k (digit k r)) (pointers n k (digit k r))
