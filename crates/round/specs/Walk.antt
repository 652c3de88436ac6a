-- The mission's third demand: the walk from arrangement to arrangement, and the three ways in which it can be in hand.
use Rattle.std.specs.Prelude.{ℕ, zero, suc, ◌<◌, ◌≡◌, List}
use Rattle.arrangement.specs.Arrangement.{Valid}
use Rattle.flip.specs.Flip.{flipped_modules, flipped_settings}
use Rattle.order.specs.Rank.{rank}
use Rattle.look.specs.Look.{look}
use Rattle.board.specs.Board.{IsBoard}

-- an arrangement: the modules and the settings by slot
pub record Arrangement : Type 0 where
  pub modules : ℕ → ℕ
  pub settings : ℕ → ℕ

-- two arrangements of n slots are the same
pub record Same (n : ℕ) (A B : Arrangement) : Type 0 where
  pub modules : (i : ℕ) → i < n → A.modules i ≡ B.modules i
  pub settings : (i : ℕ) → i < n → A.settings i ≡ B.settings i

abbrev pub ValidArrangement : ℕ → ℕ → Arrangement → Type 0
ValidArrangement n k A = Valid n k A.modules A.settings

abbrev pub rank_of : ℕ → ℕ → Arrangement → ℕ
rank_of n k A = rank n k A.modules A.settings

-- the flip by looking
abbrev pub look_at : ℕ → ℕ → Arrangement → ℕ
look_at n k A = look n k A.modules A.settings

-- the arrangement after a flip of length j
unfoldable pub flipped : ℕ → ℕ → Arrangement → Arrangement
flipped k j A = record { modules = flipped_modules j A.modules; settings = flipped_settings k j A.settings }

-- the walk from A: t flips, each found by looking
unfoldable pub walked : ℕ → ℕ → ℕ → Arrangement → Arrangement
walked n k zero A = A
walked n k (suc t) A = flipped k (look_at n k (walked n k t A)) (walked n k t A)

-- one place of the walk in all three ways: the number r, the arrangement of that rank, and the board of it
pub record InHand (n k r : ℕ) (A : Arrangement) (cs fs : List ℕ) : Type 0 where
  pub valid : ValidArrangement n k A
  pub number : rank_of n k A ≡ r
  pub board : IsBoard n k r cs fs
