-- `unrank::raise` meets its contract: a sum of k or more goes round once. Assumes nothing.
use mathlib.Core.Path.{sym}
use Rattle.order.proofs.Renaming.{raised_wraps, raised_stays}
use borrow.Author.Rules.{rules}
use Rattle.unrank.proofs.raise.Goals as goal

pub returns-then-up-k : goal.returns-then-up-k
returns-then-up-k c = sym (raised_stays _ _ _ c.if-up-k.true)

pub returns-else-up-k : goal.returns-else-up-k
returns-else-up-k c = sym (raised_wraps _ _ _ c.if-up-k.false (search rules) (search rules))
