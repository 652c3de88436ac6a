-- `entry::asked::Entry::slots` meets its contract: the byte is the first of the entry. Assumes nothing.
use mathlib.Core.Path.{◌∙◌}
use native.Mathlib.Omega.{arith}
use Rattle.book.proofs.Checks.{entry_asked, n_read}
use Rattle.entry.proofs.asked.Entry.slots.Goals as goal

pub returns : goal.returns
returns c =
    let e = c.from.ensures ∙ n_read _ _ c.bytes.ensures.is in
    (e, omega (arith, e, (entry_asked _ c.args.self.fine).is.sizes.n_high))
