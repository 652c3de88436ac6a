-- `rows::copy::store` meets its contract: the bytes that are copied over the first n slots are the copy's. Assumes nothing.
use borrow.Author.Rules.{rules}
use Rattle.rows.specs.Row.{front}
use Rattle.rows.proofs.Rows.{taken}
use Rattle.rows.proofs.copy.store.Goals as goal

pub returns : goal.returns
unfolding front
returns c = rw (c.copy_from_slice.ensures.after, taken c.args.copy c.args.n (search rules))
