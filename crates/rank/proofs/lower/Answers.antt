-- `rank::lower` meets its contract: a setting below d goes round once. Assumes nothing.
use mathlib.Core.Path.{sym}
use Rattle.order.proofs.Renaming.{lowered_wraps, lowered_stays}
use borrow.Author.Rules.{rules}
use Rattle.rank.proofs.lower.Goals as goal

pub returns-then-setting-d : goal.returns-then-setting-d
returns-then-setting-d c = sym (lowered_wraps _ _ _ c.if-setting-d.true (search rules))

pub returns-else-setting-d : goal.returns-else-setting-d
returns-else-setting-d c = sym (lowered_stays _ _ _ c.if-setting-d.false (search rules))
