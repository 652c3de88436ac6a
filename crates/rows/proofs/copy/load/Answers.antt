-- `rows::copy::load` meets its contract: the bytes that are copied over the first places are the row's. Assumes nothing.
use Rattle.rows.specs.Row.{front}
use Rattle.rows.proofs.Rows.{whole}
use Rattle.rows.proofs.copy.load.Goals as goal

pub returns : goal.returns
unfolding front
returns c = rw (c.copy_from_slice.ensures.after, ← whole c.args.slots.now)
