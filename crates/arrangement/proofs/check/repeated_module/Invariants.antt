-- `arrangement::check::repeated_module` meets its contract. The outer loop's invariant: no slot that it has passed holds a
-- module of a lower slot. The inner loop's: none of the lower slots that it has passed holds the module of slot i. Assumes nothing.
use Rattle.std.proofs.Common.{None}
use mathlib.Core.Path.{◌≡◌}
use lib.Dec.{eqb}
use Rattle.rows.specs.Row.{at}
use Rattle.rows.specs.Search.{lowest}
use Rattle.arrangement.specs.Check.{repeated}
use Rattle.arrangement.proofs.check.repeated_module.Given as goal

abbrev pub invariant-loop-h : goal.invariant-loop-h
invariant-loop-h l = (l.found ≡ None) × (lowest (λ g. eqb (at l.modules g) (at l.modules l.i)) l.h ≡ 0)

abbrev pub invariant-slots : goal.invariant-slots
invariant-slots l = (l.found ≡ None) × (lowest (repeated (at l.modules)) l.i ≡ 0)
