-- `board::digits::pointers` meets its contract. The loop's invariant: the first i pointers are made, and it is known whether
-- digit i is full. Assumes nothing.
use Rattle.board.proofs.Writing.{Pointing}
use Rattle.board.proofs.digits.pointers.Given as goal

abbrev pub invariant-loop-i : goal.invariant-loop-i
invariant-loop-i l = Pointing l.sizes.n l.sizes.k l.digits l.made l.within l.i
