-- `unrank::restore_module` meets its contract: each branch is a case of the definition. Assumes nothing.
use mathlib.Core.Path.{sym}
use Rattle.rows.proofs.Cases.{if_lt_lem, if_ge}
use Rattle.order.specs.Rank.{restored_module}
use Rattle.unrank.proofs.restore_module.Goals as goal

pub returns-then-n-up : goal.returns-then-n-up
unfolding restored_module
returns-then-n-up c = sym (if_lt_lem _ _ c.if-n-up.true)

pub returns-else-n-up : goal.returns-else-n-up
unfolding restored_module
returns-else-n-up c = sym (if_ge _ _ c.if-n-up.false)
