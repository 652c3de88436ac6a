-- `walk::hand::no_walk` meets its contract: it is what the definition writes. Assumes nothing.
use mathlib.Core.Path.{refl}
use Rattle.walk.specs.Hand.{no_walk_lem}
use Rattle.walk.proofs.hand.no_walk.Goals as goal

pub returns : goal.returns
unfolding no_walk_lem
returns c = refl
