-- `board::write::take_digits` meets its contract. The loop's invariant: the first i digits are taken off, and what is left is the
-- rank divided by their weight. Assumes nothing.
use Prim.Native.Nat.{suc, ◌/◌}
use mathlib.Core.Path.{◌≡◌}
use Rattle.rows.specs.Row.{front}
use Rattle.sizes.specs.Sizes.{weight}
use Rattle.rows.specs.Copy.{blank}
use Rattle.order.specs.Digits.{digit}
use Rattle.board.proofs.write.take_digits.Given as goal

abbrev pub invariant-loop-i : goal.invariant-loop-i
invariant-loop-i l = (l.above ≡ l.start.rank / weight l.i l.start.sizes.k) × (l.taken ≡ front (λ i. digit l.start.sizes.k l.start.rank (suc i)) l.i blank)
