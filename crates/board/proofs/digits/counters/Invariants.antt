-- `board::digits::counters` meets its contract. The loop's invariant: the first i counters are those of their digits. Assumes
-- nothing.
use Prim.Native.Nat.{suc}
use mathlib.Core.Path.{◌≡◌}
use Rattle.rows.specs.Row.{front}
use Rattle.rows.specs.Copy.{blank}
use Rattle.board.specs.Board.{place, counter}
use Rattle.board.proofs.digits.counters.Given as goal

abbrev pub invariant-loop-i : goal.invariant-loop-i
invariant-loop-i l = l.made ≡ front (λ i. counter l.sizes.k (place l.digits) (suc i)) l.i blank
