-- `entry::asked::Entry::body` meets its contract: the offset was checked. Assumes nothing.
use mathlib.Core.Path.{◌∙◌}
use Rattle.book.proofs.Checks.{entry_asked, offset_read}
use Rattle.entry.proofs.asked.Entry.body.Goals as goal

pub returns : goal.returns
returns c = let asked = entry_asked _ c.args.self.fine in offset_read _ _ c.bytes.ensures.is asked.inside_book c.number_in.ensures ∙ asked.is.offset
