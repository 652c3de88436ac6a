use mathlib.Core.Path.{◌∙◌}
use native.Mathlib.Omega.{arith}
use Rattle.order.proofs.Recursion.{rank_one, before_asked, put_asked, rank_put}
use Rattle.rank.proofs.+rank_slots.Goals as goal

pub returns-then-n-eq1 : goal.returns-then-n-eq1
returns-then-n-eq1 t c =
    let one = rank_one c.if-n-eq1.true c.requires.valid in (c.from.ensures ∙ one.0, one.1)

pub rank_slots-others-requires : goal.rank_slots-others-requires
rank_slots-others-requires t c =
    let sizes = c.requires.sizes in
    (omega arith, before_asked c.requires c.if-n-eq1.false c.rename.ensures.modules_after c.rename.ensures.settings_after)

pub put_last-requires : goal.put_last-requires
put_last-requires t c =
    let others = c.rank_slots-others.ensures in
    put_asked c.requires c.if-n-eq1.false c.rename.ensures.modules_after c.rename.ensures.settings_after others.0 others.1

pub returns : goal.returns
returns t c =
    let others = c.rank_slots-others.ensures in (
      rank_put c.requires c.if-n-eq1.false c.rename.ensures.modules_after c.rename.ensures.settings_after others.0 others.1 c.put_last.ensures.0,
      c.put_last.ensures.1,
    )
