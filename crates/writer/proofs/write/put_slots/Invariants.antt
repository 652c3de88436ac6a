-- `writer::write::put_slots` meets its contract. The loop's invariant: the first i slots are written.
-- Assumes nothing.
use Prim.Native.Nat.{◌+◌}
use Rattle.rows.specs.Row.{at, row}
use Rattle.rows.specs.Put.{Put}
use Rattle.book.specs.Format.{format_one}
use Rattle.writer.proofs.write.put_slots.Given as goal

abbrev pub invariant-loop-i : goal.invariant-loop-i
invariant-loop-i l = Put l.initial.out l.from (row (format_one.byte (at l.modules) (at l.settings)) l.i) (l.from + l.i) l.out
