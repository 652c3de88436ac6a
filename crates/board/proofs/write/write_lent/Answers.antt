-- `board::write::write_lent` meets its contract: where the check refuses nothing is written, and else the board of the rank is.
-- Assumes nothing.
use mathlib.Core.Path.{refl, sym}
use Rattle.sizes.proofs.Outcomes.{refused_does, done_does}
use Rattle.board.specs.Board.{board_leaves}
use Rattle.board.proofs.Checks.{board_asked}
use Rattle.board.proofs.write.write_lent.Goals as goal

pub returns-in_err-judge : goal.returns-in_err-judge
unfolding board_leaves
returns-in_err-judge c = refused_does tt _ _ _ _ c.from_residual.ensures.1 c.in_err-judge.ensures refl refl

pub invariant_of-sizes : goal.invariant_of-sizes
invariant_of-sizes c = record { permitted = (board_asked _ _ _ _ _ (sym c.in_ok-judge.ensures)).0.sizes }

pub invariant_of-write : goal.invariant_of-write
invariant_of-write c = record { below = (board_asked _ _ _ _ _ (sym c.in_ok-judge.ensures)).1 }

pub write-requires : goal.write-requires
write-requires c = let lent = (board_asked _ _ _ _ _ (sym c.in_ok-judge.ensures)).0 in (lent.counters, lent.pointers)

pub returns : goal.returns
unfolding board_leaves
returns c = done_does _ _ _ _ c.in_ok-judge.ensures refl c.write.ensures.counters_are c.write.ensures.pointers_are
