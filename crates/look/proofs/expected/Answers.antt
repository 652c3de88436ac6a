-- `look::expected` meets its contract: its two cases are those of the choice. Assumes nothing.
use mathlib.Core.Path.{sym}
use Rattle.rows.proofs.Cases.{if_lt_lem, if_ge}
use Rattle.look.proofs.expected.Goals as goal

pub returns-then-a-v : goal.returns-then-a-v
returns-then-a-v c = sym (if_lt_lem _ _ c.if-a-v.true)

pub returns-else-a-v : goal.returns-else-a-v
returns-else-a-v c = sym (if_ge _ _ c.if-a-v.false)
