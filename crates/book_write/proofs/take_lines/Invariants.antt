-- `book_write::take_lines` meets its contract. The loop's invariant: the first i lines are taken, and the rest is what follows them.
-- Assumes nothing.
use Rattle.book_write.proofs.Takings.{Going}
use Rattle.book_write.proofs.take_lines.Given as goal

abbrev pub invariant-loop-i : goal.invariant-loop-i
invariant-loop-i l = Going l.input l.ns l.ks l.ranks l.counts l.rest l.i
