-- `flip::raise` meets its contract: one more than a setting below k is below k, where it is the remainder, or is
-- k, where the remainder is 0. Assumes nothing.
use mathlib.Core.Path.{sym}
use native.Mathlib.Omega.{arith}
use Rattle.flip.proofs.Flips.{raised_up, raised_round}
use Rattle.flip.proofs.raise.Goals as goal

pub returns-then-from-k : goal.returns-then-from-k
returns-then-from-k c = sym (raised_round _ _ (omega arith))

pub returns-else-from-k : goal.returns-else-from-k
returns-else-from-k c = let ne = c.if-from-k.false in sym (raised_up _ _ (omega arith))
