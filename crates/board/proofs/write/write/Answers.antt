-- `board::write::write` meets its contract: the digits of the rank are taken off, and their board is stored into both buffers.
-- Assumes nothing.
use Rattle.board.proofs.Writing.{digit_at, counters_stored, pointers_stored, is_board}
use Rattle.board.proofs.write.write.Goals as goal

pub returns : goal.returns
returns c =
    is_board (digit_at _ c.take_digits-taken.ensures)
    (counters_stored _ _ _ _ c.counters.ensures c.store.ensures c.requires.0)
    (pointers_stored _ _ _ _ c.pointers.ensures c.store-2.ensures c.requires.1)
