-- `arrangement::check::none_twice` meets its contract. The loop's invariant: the modules of the slots it has passed are marked, and
-- nothing was counted exactly where none of them is repeated. Assumes nothing.
use mathlib.Core.Path.{◌≡◌}
use Rattle.rows.specs.Row.{at, row}
use Rattle.rows.specs.Copy.{wide}
use Rattle.arrangement.proofs.Marks.{mark, Tally}
use Rattle.arrangement.proofs.check.none_twice.Given as goal

abbrev pub invariant-loop-module : goal.invariant-loop-module
invariant-loop-module l =
    (l.stands ≡ row (mark (at l.modules) l.module-index) wide) × Tally (at l.modules) l.module-index l.twice
