-- `unrank::restore` meets its contract. The loop's invariant: the first i places are restored, and the rest are as they
-- were. Assumes nothing.
use Prim.Native.Nat.{suc}
use mathlib.Core.Path.{◌≡◌}
use Rattle.rows.specs.Row.{at, front}
use Rattle.order.specs.Rank.{restored_module, restored_setting}
use Rattle.unrank.proofs.restore.Given as goal

abbrev pub invariant-loop-i : goal.invariant-loop-i
invariant-loop-i l =
    (l.modules ≡ front (λ i. restored_module (suc l.m) l.v (at l.initial.modules i)) l.i l.initial.modules) ×
    (l.settings ≡ front (λ i. restored_setting (suc l.m) l.k l.v l.c (at l.initial.modules i) (at l.initial.settings i)) l.i l.initial.settings)
