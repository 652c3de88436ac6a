-- `unrank::up_again` meets its contract: each branch is a case of the definition. Assumes nothing.
use mathlib.Core.Path.{sym, ◌∙◌}
use native.Mathlib.Numerals.{add-one}
use Rattle.rows.proofs.Cases.{if_lt_lem, if_ge}
use Rattle.unrank.proofs.up_again.Goals as goal

pub returns-then-n-v : goal.returns-then-n-v
returns-then-n-v c = sym (if_lt_lem _ _ c.if-n-v.true)

pub returns-else-n-v : goal.returns-else-n-v
returns-else-n-v c = add-one _ ∙ sym (if_ge _ _ c.if-n-v.false)
