-- What the functions of a step ask of their callers, who have made the checks.
use Rattle.std.specs.Prelude.{ℕ, suc, ◌≤◌, ◌≡◌, List, length}
use Rattle.sizes.specs.Refusal.{fine}
use Rattle.sizes.specs.Sizes.{most_slots}
use Rattle.board.specs.Asked.{LentBoard}
use Rattle.step.specs.Step.{step_verdict}

-- a digit x that becomes full, of which s is the lowest or a lower one
pub record FillAsked (s x : ℕ) (cs fs : List ℕ) : Type 0 where
  pub s_low : 1 ≤ s
  pub s_high : s ≤ x
  pub x_high : x ≤ most_slots
  pub counters : x ≤ length cs
  pub pointers : suc x ≤ length fs

-- a board that a step does not refuse
pub record StepAsked (n k : ℕ) (cs fs : List ℕ) : Type 0 where
  pub lent : LentBoard n k cs fs
  pub fine : step_verdict n k cs fs ≡ fine
