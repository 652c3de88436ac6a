-- `sizes::permitted::Sizes::total` meets its contract. The loop's invariant: t is the weight of i places. The weight of one place
-- more is still at most T, so no product wraps. Assumes nothing.
use mathlib.Core.Path.{◌≡◌}
use Rattle.sizes.specs.Sizes.{weight}
use Rattle.sizes.proofs.permitted.Sizes.total.Given as goal

abbrev pub invariant-loop-i : goal.invariant-loop-i
invariant-loop-i l = l.t ≡ weight l.i l.fn.self.k
