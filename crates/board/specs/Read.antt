-- 01, "The counter board": the whole reading of a board. It answers the rank of the board, or 10 where it is no rank's board.
use Rattle.std.specs.Prelude.{ℕ, zero, suc, ◌-◌, ◌*◌, ◌<◌, ◌≡◌, List, Result, Ok, Err}
use Rattle.rows.specs.Row.{at}
use Rattle.rows.specs.Search.{if_lt}
use Rattle.sizes.specs.declared.Fault.TheVariants.{Board}
use Rattle.sizes.specs.declared.Refusal.{Refusal}
use Rattle.sizes.specs.Refusal.{Verdict, fine, refused, first}
use Rattle.sizes.specs.Sizes.{weight}
use Rattle.arrangement.specs.Check.{buffers_verdict}
use Rattle.board.specs.Board.{place, IsBoard}

-- two buffers hold the board of no rank
pub record NoBoard (n k : ℕ) (cs fs : List ℕ) : Type 0 where
  pub none : (r : ℕ) → r < weight n k → IsBoard n k r cs fs → ⊥

-- what the reading of any two lent buffers answers: a rank whose board they hold; or else the refusal of the buffers, and 10 where
-- these are right but hold no rank's board
unfoldable pub Reads : ℕ → ℕ → List ℕ → List ℕ → Result ℕ Refusal → Type 0
Reads n k cs fs (Ok r) = (buffers_verdict n k cs 1 fs ≡ fine) × (r < weight n k) × IsBoard n k r cs fs
Reads n k cs fs (Err refusal) =
    (Err refusal ≡ first (buffers_verdict n k cs 1 fs) (refused Board 0)) × (buffers_verdict n k cs 1 fs ≡ fine → NoBoard n k cs fs)

-- the verdict that a reading stands for, and its rank: 0 where it was refused
unfoldable pub verdict_of : Result ℕ Refusal → Verdict
verdict_of (Ok r) = fine
verdict_of (Err refusal) = Err refusal

unfoldable pub rank_read : Result ℕ Refusal → ℕ
rank_read (Ok r) = r
rank_read (Err refusal) = 0

-- ---- how it is read

-- the end of the run of full digits to which the pointers f_1 to f_j lead last; 0 where each of them points to its own place
unfoldable pub end_read : List ℕ → ℕ → ℕ
end_read fs zero = 0
end_read fs (suc i) = if_lt (suc i) (at fs i) (at fs i) (end_read fs i)

-- digit j: full inside such a run, and else what the counter says; 0 where that is no digit
unfoldable pub digit_read : ℕ → List ℕ → List ℕ → ℕ → ℕ
digit_read k cs fs j = if_lt j (end_read fs j) (k * j - 1) (if_lt (k * j - 1) (place cs j) 0 (place cs j))
