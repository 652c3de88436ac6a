-- 01, "The counter board": one step of a board, true or false. It reads x = f_s; x is n + 1 where the round closes.
use Rattle.std.specs.Prelude.{ℕ, suc, ◌+◌, ◌-◌, ◌*◌, Bool, cond, List, leb, eqb, set}
use Rattle.rows.specs.Search.{outside}
use Rattle.sizes.specs.declared.Fault.TheVariants.{Board}
use Rattle.sizes.specs.Refusal.{Verdict, fine, first, refused_if}
use Rattle.sizes.specs.Outcome.{Outcome, outcome}
use Rattle.arrangement.specs.Check.{buffers_verdict}
use Rattle.board.specs.Board.{place, lowest_digit_lem}

-- a buffer with another number at place j
abbrev pub put : List ℕ → ℕ → ℕ → List ℕ
put xs j x = set xs (j - 1) x

-- x, to which f_s points
unfoldable pub pointed : ℕ → List ℕ → ℕ
pointed k fs = place fs (lowest_digit_lem k)

-- the round closes
unfoldable pub closes : ℕ → ℕ → List ℕ → Bool
closes n k fs = eqb (pointed k fs) (suc n)

-- the flip is x, or n where the round closes
unfoldable pub step_flip : ℕ → ℕ → List ℕ → ℕ
step_flip n k fs = cond (closes n k fs) n (pointed k fs)

-- c_x + 1 is k × x - 1: the digit becomes full
unfoldable pub fills : ℕ → ℕ → List ℕ → Bool
fills k x cs = eqb (suc (place cs x)) (k * x - 1)

-- 10 of a digit x: c_x is k × x - 1 or more, or the digit becomes full and y = f_(x + 1) is outside x + 1 to n + 1
unfoldable pub counter_verdict : ℕ → ℕ → ℕ → List ℕ → List ℕ → Verdict
counter_verdict n k x cs fs =
    first (refused_if Board (leb (k * x - 1) (place cs x)))
    (cond (fills k x cs) (refused_if Board (outside (suc x) (suc n) (place fs (suc x)))) fine)

-- 10 of a step: x is below s or above n + 1, or the round does not close and digit x is refused
unfoldable pub step_verdict : ℕ → ℕ → List ℕ → List ℕ → Verdict
step_verdict n k cs fs =
    first (refused_if Board (outside (lowest_digit_lem k) (suc n) (pointed k fs)))
    (cond (closes n k fs) fine (counter_verdict n k (pointed k fs) cs fs))

-- the counters after the step: c_x + 1 is stored, or 0 where the digit becomes full
unfoldable pub stepped_counters : ℕ → ℕ → List ℕ → List ℕ → List ℕ
stepped_counters n k cs fs =
    cond (closes n k fs) cs
    (cond (fills k (pointed k fs) cs) (put cs (pointed k fs) 0) (put cs (pointed k fs) (suc (place cs (pointed k fs)))))

-- the pointers after the step: f_s becomes s; and where the digit becomes full f_x becomes f_(x + 1), and f_(x + 1) becomes x + 1,
-- in that order
unfoldable pub stepped_pointers : ℕ → ℕ → List ℕ → List ℕ → List ℕ
stepped_pointers n k cs fs =
    cond (closes n k fs) (put fs (lowest_digit_lem k) (lowest_digit_lem k))
    (cond (fills k (pointed k fs) cs)
    (put (put (put fs (lowest_digit_lem k) (lowest_digit_lem k)) (pointed k fs) (place fs (suc (pointed k fs)))) (suc (pointed k fs)) (suc (pointed k fs)))
    (put fs (lowest_digit_lem k) (lowest_digit_lem k)))

-- the check of n and k, of two lent buffers of n and n + 1 bytes, and of the step: 1 to 4, and 10
unfoldable pub lent_step_verdict : ℕ → ℕ → List ℕ → List ℕ → Verdict
lent_step_verdict n k cs fs = first (buffers_verdict n k cs 1 fs) (step_verdict n k cs fs)

-- the flip and whether the round closed, as one number: the flip in its lowest 8 bits, and the round in the next
unfoldable pub step_number : ℕ → ℕ → List ℕ → ℕ
step_number n k fs = step_flip n k fs + cond (closes n k fs) 256 0

-- what a step leaves
unfoldable pub step_leaves : ℕ → ℕ → List ℕ → List ℕ → Outcome ℕ
step_leaves n k cs fs =
    outcome (lent_step_verdict n k cs fs) (step_number n k fs) cs fs (stepped_counters n k cs fs) (stepped_pointers n k cs fs)
