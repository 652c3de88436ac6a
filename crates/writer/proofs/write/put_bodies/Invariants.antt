-- `writer::write::put_bodies` meets its contract. The loop's invariant: the first i bodies are written.
-- Assumes nothing.
use Rattle.rows.specs.Put.{Put}
use Rattle.writer.specs.Write.{lent}
use Rattle.writer.proofs.Pieces.{bodies_to}
use Rattle.writer.proofs.write.put_bodies.Given as goal

abbrev pub invariant-loop-i : goal.invariant-loop-i
invariant-loop-i l = Put l.initial.out l.from (bodies_to (lent l.stretches.lists) l.i) l.end l.out
