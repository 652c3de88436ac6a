-- `look::offset` meets its contract: its two cases are those of the definition. Assumes nothing.
use mathlib.Core.Path.{sym}
use Rattle.rows.proofs.Cases.{if_lt_lem, if_ge}
use Rattle.look.specs.Look.{offset}
use Rattle.look.proofs.offset.Goals as goal

pub returns-then-a-v : goal.returns-then-a-v
unfolding offset
returns-then-a-v c = sym (if_lt_lem _ _ c.if-a-v.true)

pub returns-else-a-v : goal.returns-else-a-v
unfolding offset
returns-else-a-v c = sym (if_ge _ _ c.if-a-v.false)
