use Rattle.order.proofs.Recursion.{none_unranked, above_taken, unranked}
use Rattle.unrank.proofs.+unrank_slots.Goals as goal

pub returns-then-n-eq0-clause-value : goal.returns-then-n-eq0-clause-value
returns-then-n-eq0-clause-value t c = (none_unranked c.if-n-eq0.true c.requires.bounded).0

pub returns-clause-value : goal.returns-clause-value
returns-clause-value t c = above_taken c.args.rank c.requires c.if-n-eq0.false c.unrank_slots-above.ensures.value

pub returns-clause-unranked : goal.returns-clause-unranked
returns-clause-unranked t c =
    let above = c.unrank_slots-above.ensures in
    unranked c.args.rank c.requires c.if-n-eq0.false above.value above.unranked c.restore.ensures.modules_after c.restore.ensures.settings_after
