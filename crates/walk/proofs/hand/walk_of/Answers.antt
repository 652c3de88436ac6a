-- `walk::hand::walk_of` meets its contract: the arrangement is written into the first n of its places, and 0 stays behind.
-- Assumes nothing.
use Rattle.walk.specs.Hand.{walk_of_lem, nothing}
use Rattle.walk.proofs.Hands.{places_written}
use Rattle.walk.proofs.hand.walk_of.Goals as goal

pub returns : goal.returns
unfolding walk_of_lem
returns c =
    let a = c.args.start.sizes in
    λ i. record {
      n = a.n;
      k = a.k;
      modules = places_written _ a.n nothing c.write.ensures.modules_after i;
      settings = places_written _ a.n nothing c.write.ensures.settings_after i;
    }
