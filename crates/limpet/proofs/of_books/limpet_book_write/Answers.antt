-- `limpet_book_write` keeps its promise: it packs what the floor below answers, and a book is short. Assumes nothing.
use native.Mathlib.Omega.{arith}
use Rattle.writer.specs.Write.{write_tells}
use Rattle.writer.proofs.Checks.{accepted}
use Rattle.writer.proofs.Pieces.{book_short}
use Rattle.limpet.proofs.Answers.{tells_writes, value_fits}
use Rattle.limpet.proofs.of_books.limpet_book_write.Goals as goal

pub returns : goal.returns
returns c =
    let written = c.write_lent.ensures in tells_writes written.value written.book_after c.pack.ensures

pub pack-requires : goal.pack-requires
unfolding write_tells
pack-requires c =
    value_fits 2178 c.write_lent.ensures.value (λ passed. let a = accepted _ _ passed in book_short _ a.one_length a.all) (omega arith)
