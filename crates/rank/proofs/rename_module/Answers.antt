-- `rank::rename_module` meets its contract: each branch is a case of the definition. Assumes nothing.
use mathlib.Core.Path.{sym}
use Rattle.rows.proofs.Cases.{if_lt_lem, if_ge}
use Rattle.order.specs.Rank.{renamed_module}
use Rattle.rank.proofs.rename_module.Goals as goal

pub returns-then-v-w : goal.returns-then-v-w
unfolding renamed_module
returns-then-v-w c = sym (if_lt_lem _ _ c.if-v-w.true)

pub returns-else-v-w : goal.returns-else-v-w
unfolding renamed_module
returns-else-v-w c = sym (if_ge _ _ c.if-v-w.false)
