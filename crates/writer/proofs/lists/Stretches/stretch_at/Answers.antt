-- `writer::lists::Stretches::stretch_at` meets its contract: it reads a byte of each of two lists and eight bytes of each of two. Assumes
-- nothing.
use Prim.Native.Nat.{◌+◌, ◌*◌}
use mathlib.Core.Path.{◌∙◌, ap}
use native.Mathlib.Omega.{arith}
use Rattle.book.specs.Format.{number_in}
use Rattle.book.proofs.Slices.{part_slice}
use Rattle.writer.specs.Write.{lent, word_at, stretch_at_lem}
use Rattle.writer.proofs.lists.Stretches.stretch_at.Goals as goal

pub returns : goal.returns
unfolding stretch_at_lem word_at
returns c =
    let s = stretch_at_lem (lent c.args.self.lists) c.args.i in
    let place = 8 * c.args.i in
    let rank = c.number_in-rank.ensures ∙ ap number_in (part_slice place (place + 8) _ (omega arith)) in
    let count = c.number_in-count.ensures ∙ ap number_in (part_slice place (place + 8) _ (omega arith)) in
    λ j. record { n = c.from-n.ensures j; k = c.from-k.ensures j; rank = rank j; count = count j }
