-- `entry::asked::Entry::bytes` meets its contract: the entry is in the book. Assumes nothing.
use Rattle.book.proofs.Checks.{entry_asked}
use Rattle.entry.proofs.asked.Entry.bytes.Goals as goal

pub overflow_sub-self : goal.overflow_sub-self
overflow_sub-self c = (entry_asked _ c.args.self.fine).low

pub entry-requires : goal.entry-requires
entry-requires c = let asked = entry_asked _ c.args.self.fine in (asked.few, asked.inside_book)
