-- `unrank::write` meets its contract: the slots of the rank are stored over all n places of both rows. Assumes nothing.
use Rattle.order.proofs.Recursion.{blank_asked, modules_stored, settings_stored}
use Rattle.unrank.proofs.write.Goals as goal

pub unrank_slots-requires : goal.unrank_slots-requires
unrank_slots-requires c = blank_asked c.args.start.sizes.permitted

pub returns : goal.returns
returns c =
    let slots = c.unrank_slots.ensures.unranked in
    let below = c.args.start.below in record {
      modules_after = modules_stored below slots _ c.requires.0 c.store.ensures;
      settings_after = settings_stored below slots _ c.requires.1 c.store-2.ensures;
    }
