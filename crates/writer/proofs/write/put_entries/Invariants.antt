-- `writer::write::put_entries` meets its contract. The loop's invariant: the first i entries are written, and the next body begins
-- behind the contents and the bodies before it. Assumes nothing.
use mathlib.Core.Path.{◌≡◌}
use lib.ListN.{length}
use Rattle.rows.specs.Row.{at}
use Rattle.rows.specs.Put.{Put}
use Rattle.book.specs.Format.{format_one, body_place}
use Rattle.writer.specs.Write.{lent}
use Rattle.writer.proofs.Pieces.{entries_to}
use Rattle.writer.proofs.write.put_entries.Given as goal

abbrev pub invariant-loop-i : goal.invariant-loop-i
invariant-loop-i l =
    (l.offset ≡ body_place format_one (length l.stretches.lists.ns.now) (at l.stretches.lists.ns.now) l.i) × Put l.initial.out l.from (entries_to (lent l.stretches.lists) l.i) l.end l.out
