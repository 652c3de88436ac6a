-- `rank::rename` meets its contract. The loop's invariant: the first i places are renamed, and the rest are as they were.
-- Assumes nothing.
use mathlib.Core.Path.{◌≡◌}
use Rattle.rows.specs.Row.{at, front}
use Rattle.order.specs.Rank.{prefix_modules, prefix_settings}
use Rattle.rank.proofs.rename.Given as goal

abbrev pub invariant-loop-i : goal.invariant-loop-i
invariant-loop-i l =
    (l.modules ≡ front (prefix_modules l.m (at l.initial.modules)) l.i l.initial.modules) ×
    (l.settings ≡ front (prefix_settings l.m l.k (at l.initial.modules) (at l.initial.settings)) l.i l.initial.settings)
