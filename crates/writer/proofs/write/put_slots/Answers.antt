use mathlib.Core.Path.{refl}
use native.Mathlib.Omega.{arith}
use Rattle.book.specs.Format.{format_one}
use Rattle.writer.proofs.Pieces.{row_first, row_on}
use Rattle.writer.proofs.write.put_slots.Goals as goal

pub loop-i-init : goal.loop-i-init
loop-i-init c = (row_first _)

pub overflow_mul-out : goal.overflow_mul-out
overflow_mul-out c = omega (arith, c.requires.settings_low _ c.loop-i-test.true)

pub loop-i-preserved : goal.loop-i-preserved
unfolding format_one
loop-i-preserved c =
    let inside = c.loop-i-test.true in
    (row_on _ c.loop-i.i c.loop-i.invariant (omega (arith, c.requires.room, inside)) refl)
