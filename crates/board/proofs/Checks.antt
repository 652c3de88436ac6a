-- What a call on a board may rely on where its check does not refuse. Assumes nothing.
use mathlib.Core.Path.{◌≡◌, ◌∙◌}
use mathlib.Core.List.{List}
use Prim.Native.Nat.{ℕ, ◌<◌}
use native.Mathlib.Numerals.{add-one}
use Rattle.sizes.specs.Refusal.{fine}
use Rattle.arrangement.proofs.Validity.{Fit}
use Rattle.order.specs.Check.{lent_rank_verdict}
use Rattle.order.proofs.Checks.{rank_accepted}
use Rattle.sizes.specs.Sizes.{weight}
use Rattle.board.specs.declared.lent.Board.{Board}
use Rattle.board.specs.Asked.{LentBoard}

-- two buffers that have their lengths
pub lent_board : {n k : ℕ} {cs fs : List ℕ} → Fit n k cs 1 fs → LentBoard n k cs fs
lent_board f = record { sizes = f.sizes; counters = f.one; pointers = f.two ∙ add-one _ }

-- a board that is lent holds them
pub held : (b : Board) → LentBoard b.sizes.n b.sizes.k b.counters.now b.pointers.now
held b = record { sizes = b.sizes.permitted; counters = b.counters_long; pointers = b.pointers_long }

-- the writing of a board
pub board_asked : (n k r : ℕ) (cs fs : List ℕ) → lent_rank_verdict n k r cs 1 fs ≡ fine → LentBoard n k cs fs × (r < weight n k)
board_asked n k r cs fs e = let a = rank_accepted n k r cs 1 fs e in (lent_board a.0, a.1)
