-- `line::read_number` meets its contract. The loop's invariant: the first digit and the i bytes behind it are the value in decimal.
-- Assumes nothing.
use Rattle.line.proofs.Readings.{Reading}
use Rattle.line.proofs.read_number.Given as goal

abbrev pub invariant-loop-i : goal.invariant-loop-i
invariant-loop-i l = Reading l.input l.digits l.value l.i
