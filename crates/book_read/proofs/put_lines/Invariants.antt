-- `book_read::put_lines` meets its contract. The loop's invariant: the lines of the first i entries are put. Assumes nothing.
use Rattle.book_read.proofs.Lined.{Lined}
use Rattle.book_read.proofs.put_lines.Given as goal

abbrev pub invariant-loop-i : goal.invariant-loop-i
invariant-loop-i l = Lined l.initial.out.items l.book l.out.items l.i
