-- `flip::turn` meets its contract. The loop's invariant: the first i slots of the copies are those of the flipped
-- arrangement, and the rest are 0. Assumes nothing.
use mathlib.Core.Path.{◌≡◌}
use Rattle.rows.specs.Row.{at, front}
use Rattle.rows.specs.Copy.{blank}
use Rattle.flip.specs.Flip.{flipped_modules, flipped_settings}
use Rattle.flip.proofs.turn.Given as goal

abbrev pub invariant-loop-i : goal.invariant-loop-i
invariant-loop-i l =
    (l.turned_modules ≡ front (flipped_modules l.j (at l.modules)) l.i blank) ×
    (l.turned_settings ≡ front (flipped_settings l.k l.j (at l.settings)) l.i blank)
