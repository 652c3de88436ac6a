-- `board::digits::run_end` meets its contract. The loop's invariant: the digits from j on that it has passed are full, so the run
-- ends where the one from here on ends. Assumes nothing.
use Rattle.board.proofs.Writing.{Running}
use Rattle.board.proofs.digits.run_end.Given as goal

abbrev pub invariant-loop-end : goal.invariant-loop-end
invariant-loop-end l = Running l.sizes.n l.sizes.k l.digits l.j l.end
