-- `book::format::number_in` meets its contract. The loop's invariant: the bytes that were read are the last, and the number is
-- theirs. Assumes nothing.
use Rattle.book.proofs.Bytes.{Reading}
use Rattle.book.proofs.format.number_in.Given as goal

abbrev pub invariant-loop-byte : goal.invariant-loop-byte
invariant-loop-byte l = Reading l.bytes l.byte-iterator.iter.rest.now l.number
