-- `limpet_book_read` keeps its promise: it packs what the floor below answers, and n and k are small. Assumes nothing.
use native.Mathlib.Omega.{arith}
use Rattle.book.proofs.Checks.{lent_fine, entry_asked}
use Rattle.entry.specs.Entry.{entry_number, entry_leaves}
use Rattle.sizes.specs.Outcome.{outcome}
use Rattle.limpet.specs.Answer.{own_value}
use Rattle.limpet.proofs.Answers.{does_leaves, value_fits}
use Rattle.limpet.proofs.of_books.limpet_book_read.Goals as goal

pub returns : goal.returns
returns c = does_leaves own_value c.read_lent.ensures c.pack.ensures

pub pack-requires : goal.pack-requires
unfolding entry_leaves entry_number outcome
pack-requires c =
    value_fits 2068 c.read_lent.ensures.answer_is
    (λ passed. let sizes = (entry_asked _ (lent_fine _ _ _ _ _ passed).0).is.sizes in omega (arith, sizes.n_high, sizes.k_high)) (omega arith)
