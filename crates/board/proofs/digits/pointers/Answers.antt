use native.Mathlib.Omega.{arith}
use Rattle.board.proofs.Writing.{pointing_first, pointing_on}
use Rattle.board.proofs.digits.pointers.Goals as goal

pub loop-i-init : goal.loop-i-init
loop-i-init c = pointing_first

pub loop-i-preserved : goal.loop-i-preserved
loop-i-preserved c =
    pointing_on c.args.sizes.permitted c.loop-i.invariant (omega arith) c.pointer.ensures c.is_full-within.ensures
