-- `unrank::restore_setting` meets its contract: it is the definition. Assumes nothing.
use mathlib.Core.Path.{ap, ◌∙◌}
use native.Mathlib.Omega.{arith}
use Rattle.rows.proofs.Cases.{if_le}
use Rattle.order.specs.Rank.{raised_by, restored_setting}
use Rattle.unrank.proofs.restore_setting.Goals as goal

pub raise-requires : goal.raise-requires
raise-requires c =
    let by = c.requires.4 in
    (c.requires.3, rw c.up_again.ensures (if_le _ _ (omega arith) by), c.requires.5)

pub returns : goal.returns
unfolding restored_setting
returns c = c.raise.ensures ∙ ap (raised_by _ _) c.up_again.ensures
