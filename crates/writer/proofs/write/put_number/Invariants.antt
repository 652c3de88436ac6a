-- `writer::write::put_number` meets its contract. The loop's invariant: the first i bytes are written, and the rest is what is left of
-- the number. Assumes nothing.
use Rattle.writer.proofs.Pieces.{Numbered}
use Rattle.writer.proofs.write.put_number.Given as goal

abbrev pub invariant-loop-i : goal.invariant-loop-i
invariant-loop-i l = Numbered l.initial.out l.from l.number l.out l.rest l.i
