-- `rank::rank` meets its contract: the loaded rows agree with the lent ones on every slot. Assumes nothing.
use mathlib.Core.Path.{◌∙◌}
use Rattle.arrangement.proofs.Arrangements.{held}
use Rattle.order.proofs.Recursion.{loaded}
use Rattle.rank.proofs.rank.Goals as goal

pub rank_slots-ranked-requires : goal.rank_slots-ranked-requires
rank_slots-ranked-requires c =
    (loaded (held c.args.arrangement) c.load-modules.ensures c.load-settings.ensures).0

pub returns : goal.returns
returns c =
    c.rank_slots-ranked.ensures.0 ∙ (loaded (held c.args.arrangement) c.load-modules.ensures c.load-settings.ensures).1
