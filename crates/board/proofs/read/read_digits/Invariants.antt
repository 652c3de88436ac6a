-- `board::read::read_digits` meets its contract. The loop's invariant: the digits of the first i places are read, and the end is
-- what their pointers say. Assumes nothing.
use Rattle.board.proofs.Readings.{ReadingOff}
use Rattle.board.proofs.read.read_digits.Given as goal

abbrev pub invariant-loop-i : goal.invariant-loop-i
invariant-loop-i l = ReadingOff l.board.sizes.n l.board.sizes.k l.board.counters.now l.board.pointers.now l.read l.end l.i
