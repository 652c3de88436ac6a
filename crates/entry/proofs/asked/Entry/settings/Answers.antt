-- `entry::asked::Entry::settings` meets its contract: the byte is the second of the entry. Assumes nothing.
use mathlib.Core.Path.{◌∙◌}
use native.Mathlib.Omega.{arith}
use Rattle.book.proofs.Checks.{entry_asked, k_read}
use Rattle.entry.proofs.asked.Entry.settings.Goals as goal

pub returns : goal.returns
returns c =
    let e = c.from.ensures ∙ k_read _ _ c.bytes.ensures.is in
    (e, omega (arith, e, (entry_asked _ c.args.self.fine).is.sizes.k_high))
