-- 01, "Rank and its digits": the flip by looking, which reads the arrangement only (the successor of 000 and 003). Slots fall from
-- the front as long as their modules go down from the front module, on from 1 to n and down again, but not past the front module
-- itself, and each has the setting that goes with it. The flip turns the slots that fall.
use Rattle.std.specs.Prelude.{ℕ, suc, ◌+◌, ◌-◌, Bool, true, cond, List, eqb, leb}
use Rattle.rows.specs.Row.{at, row}
use Rattle.rows.specs.Search.{if_lt, or_else, lowest}
use Rattle.sizes.specs.Outcome.{Outcome, outcome}
use Rattle.arrangement.specs.Check.{lent_verdict}
use Rattle.flip.specs.Flip.{raised, flipped_modules, flipped_settings}

-- ---- with a:s in front

-- how far down from a the module v is, going on from 1 to n
unfoldable pub offset : ℕ → ℕ → ℕ → ℕ
offset n a v = if_lt a v (n + a - v) (a - v)

-- the setting that goes with module v: raised by one where it lies behind the turn from 1 to n, and else s
unfoldable pub expected_setting : ℕ → ℕ → ℕ → ℕ → ℕ
expected_setting k a s v = if_lt a v (raised k s) s

-- ---- looking from slot to slot

-- whether the slots stop falling behind slot i, counted from 0: the next slot has another setting than goes with its module, or
-- its module is no further down
unfoldable pub stops : ℕ → ℕ → (ℕ → ℕ) → (ℕ → ℕ) → ℕ → Bool
stops n k M S i =
    cond (eqb (S (suc i)) (expected_setting k (M 0) (S 0) (M (suc i)))) (leb (offset n (M 0) (M (suc i))) (offset n (M 0) (M i))) true

-- the length of the flip: the lowest slot, counted from 1, behind which the slots stop falling, or n where there is none
unfoldable pub look : ℕ → ℕ → (ℕ → ℕ) → (ℕ → ℕ) → ℕ
look n k M S = or_else (lowest (stops n k M S) (n - 1)) n

-- ---- the next arrangement

-- what its making leaves: the flip is made, and its length is the number
unfoldable pub next_leaves : ℕ → ℕ → List ℕ → List ℕ → Outcome ℕ
next_leaves n k ms ss =
    let j : ℕ = look n k (at ms) (at ss) in
    outcome (lent_verdict n k ms ss) j ms ss (row (flipped_modules j (at ms)) n) (row (flipped_settings k j (at ss)) n)
