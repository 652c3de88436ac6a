-- `book::format::entry` meets its contract: the part of the book is where the entry begins. Assumes nothing.
use Prim.Native.Nat.{◌+◌}
use mathlib.Core.Path.{◌∙◌, ap}
use native.Mathlib.Omega.{arith}
use lib.Seq.{slice}
use Rattle.book.specs.Read.{entry_of}
use Rattle.book.proofs.Slices.{part_slice}
use Rattle.book.proofs.format.entry.Goals as goal

pub returns-clause-is : goal.returns-clause-is
unfolding entry_of
returns-clause-is c = let p = c.entry_place-place.result in part_slice p (p + 14) c.args.book.now (omega arith) ∙ ap (λ p. slice p (p + 14) c.args.book.now) c.entry_place-place.ensures
