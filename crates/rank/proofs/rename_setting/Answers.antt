-- `rank::rename_setting` meets its contract: it is the definition. Assumes nothing.
use mathlib.Core.Path.{ap, ◌∙◌}
use native.Mathlib.Omega.{arith}
use Rattle.rows.proofs.Cases.{if_le}
use Rattle.order.specs.Rank.{lowered_by, renamed_setting}
use Rattle.rank.proofs.rename_setting.Goals as goal

pub lower-requires : goal.lower-requires
lower-requires c =
    let by = c.requires.1 in
    (c.requires.0, rw c.down.ensures (if_le _ _ by (omega arith)), c.requires.2)

pub returns : goal.returns
unfolding renamed_setting
returns c = c.lower.ensures ∙ ap (lowered_by _ _) c.down.ensures
