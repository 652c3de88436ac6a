-- `rank::down` meets its contract: each branch is a case of the definition. Assumes nothing.
use mathlib.Core.Path.{sym, ◌∙◌}
use native.Mathlib.Numerals.{add-one}
use Rattle.rows.proofs.Cases.{if_lt_lem, if_ge}
use Rattle.rank.proofs.down.Goals as goal

pub returns-then-v-w : goal.returns-then-v-w
returns-then-v-w c = add-one _ ∙ sym (if_lt_lem _ _ c.if-v-w.true)

pub returns-else-v-w : goal.returns-else-v-w
returns-else-v-w c = sym (if_ge _ _ c.if-v-w.false)
