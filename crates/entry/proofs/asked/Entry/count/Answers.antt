-- `entry::asked::Entry::count` meets its contract: the number is in the last 8 bytes of the entry. Assumes nothing.
use Rattle.book.proofs.Checks.{entry_asked, count_read}
use Rattle.entry.proofs.asked.Entry.count.Goals as goal

pub returns : goal.returns
returns c = count_read _ _ c.bytes.ensures.is (entry_asked _ c.args.self.fine).inside_book c.number_in.ensures
