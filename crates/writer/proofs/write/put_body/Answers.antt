-- `writer::write::put_body` meets its contract: the arrangement is written into the first n places of two rows, and its bytes are
-- made of those alone. Assumes nothing.
use mathlib.Core.Path.{refl}
use Rattle.rows.proofs.Puts.{put_as}
use Rattle.book.proofs.Checks.{written_taken, written_at}
use Rattle.writer.proofs.Pieces.{body_row, body_asked}
use Rattle.writer.proofs.write.put_body.Goals as goal

pub put_slots-requires : goal.put_slots-requires
put_slots-requires c =
    let modules = c.write.ensures.modules_after in
    let settings = c.write.ensures.settings_after in
    body_asked c.args.stretch c.requires.1 c.requires.0 (written_taken _ _ refl modules) (written_taken _ _ refl settings) (written_at _ _ refl modules) (written_at _ _ refl settings)

pub returns : goal.returns
returns c =
    let modules = c.write.ensures.modules_after in
    let settings = c.write.ensures.settings_after in
    put_as (body_row c.args.stretch _ _ (written_taken _ _ refl modules) (written_at _ _ refl modules) (written_at _ _ refl settings)) refl c.put_slots.ensures
