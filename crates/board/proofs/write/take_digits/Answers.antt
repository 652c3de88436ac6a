use native.Mathlib.Omega.{arith}
use Rattle.rows.proofs.Rows.{begun, stored}
use Rattle.board.proofs.Writing.{none_taken, digit_taken, above_taken}
use Rattle.board.proofs.write.take_digits.Goals as goal

pub loop-i-init : goal.loop-i-init
loop-i-init c = (none_taken _ _, begun _ _)

pub loop-i-preserved : goal.loop-i-preserved
loop-i-preserved c = (
  above_taken _ _ c.loop-i.i c.loop-i.invariant.0,
  stored _ _ _ c.loop-i.invariant.1 (omega arith) (digit_taken _ _ c.loop-i.i c.loop-i.invariant.0),
)
