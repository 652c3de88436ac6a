-- `book_read::put_line` meets its contract: the arrangement is written into the first n places of its rows, and the line has those
-- alone. Assumes nothing.
use Rattle.std.proofs.Common.{sym}
use Rattle.book.proofs.Checks.{written_taken, written_at}
use Rattle.book_read.proofs.Lined.{line_put}
use Rattle.book_read.proofs.put_line.Goals as goal

pub returns : goal.returns
returns c =
    let same = sym c.slots-n.ensures.0 in record {
      put = line_put c.args.entry.book.now _ c.args.out.now.items _ _ _ _ _ _ _ c.put_entry.ensures.put (written_taken _ _ same c.write.ensures.modules_after) c.slots-n.ensures.0
          c.settings-k.ensures.0 c.count-count.ensures c.rank-rank.ensures
          (written_at _ _ same c.write.ensures.modules_after) (written_at _ _ same c.write.ensures.settings_after);
      upper_bound = c.put_entry.ensures.upper_bound;
    }
