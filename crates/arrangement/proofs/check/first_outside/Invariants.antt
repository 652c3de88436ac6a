-- `arrangement::check::first_outside` meets its contract. The loop's invariant: no byte that it has passed is outside. Assumes
-- nothing.
use mathlib.Core.Path.{◌≡◌}
use Rattle.rows.specs.Row.{at}
use Rattle.rows.specs.Search.{outside, lowest}
use Rattle.arrangement.proofs.check.first_outside.Given as goal

abbrev pub invariant-loop-i : goal.invariant-loop-i
invariant-loop-i l = lowest (λ i. outside l.low l.high (at l.slots i)) l.i ≡ 0
