-- `walk::hand::Walk::flip` meets its contract: the walk comes back as it was where it is refused. Assumes nothing.
use mathlib.Core.Path.{refl, sym}
use Rattle.walk.specs.Hand.{flips}
use Rattle.walk.proofs.Hands.{flip_asked, handed_done, handed_kept}
use Rattle.walk.proofs.hand.Walk.flip.Goals as goal

pub returns-in-Ok : goal.returns-in-Ok
unfolding flips
returns-in-Ok c = handed_done _ c.in-Ok.ensures c.flipped.ensures

pub returns-in-Err : goal.returns-in-Err
unfolding flips
returns-in-Err c = handed_kept _ c.in-Err.ensures refl

pub flipped-requires : goal.flipped-requires
flipped-requires c = flip_asked _ _ (sym c.in-Ok.ensures)
