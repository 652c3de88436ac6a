-- `writer::lists::book_length` meets its contract. The loop's invariant: the length is where the next body begins. Assumes nothing.
use mathlib.Core.Path.{◌≡◌}
use lib.ListN.{length as long}
use Rattle.rows.specs.Row.{at}
use Rattle.book.specs.Format.{format_one, body_place}
use Rattle.writer.proofs.lists.book_length.Given as goal

abbrev pub invariant-loop-n : goal.invariant-loop-n
invariant-loop-n l = l.length ≡ body_place format_one (long l.ns) (at l.ns) l.n-index
