-- `writer::write::put_entry` meets its contract: n, k, the offset and the count are written one behind the other. Assumes nothing.
use mathlib.Core.Path.{refl}
use native.Mathlib.Omega.{arith}
use Rattle.book.proofs.Bytes.{bytes_long}
use Rattle.writer.proofs.Pieces.{entry_put}
use Rattle.writer.proofs.write.put_entry.Goals as goal

pub put_number-requires : goal.put_number-requires
put_number-requires c = omega (arith, bytes_long 4 c.args.offset)

pub returns : goal.returns
returns c =
    entry_put c.args.offset c.args.stretch c.requires.0 refl refl c.put_byte-slots.ensures c.put_byte-settings.ensures c.put_number-place.ensures c.put_number.ensures
