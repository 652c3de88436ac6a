-- `sizes::outside` meets its contract: each side of `||` is a branch of the definition. Assumes nothing.
use borrow.Author.Tests.{lt-ltb, le-ltb}
use Rattle.rows.specs.Search.{outside}
use Rattle.sizes.proofs.outside.Goals as goal

pub returns-then-x-low : goal.returns-then-x-low
unfolding outside
returns-then-x-low c = rw (lt-ltb _ _ c.if-x-low.true)

pub returns-else-x-low : goal.returns-else-x-low
unfolding outside
returns-else-x-low c = rw (le-ltb _ _ c.if-x-low.false)
