-- `walk::hand::Walk::flipped` meets its contract: the flip is made on the part that is lent, and what is behind it stays. Assumes
-- nothing.
use borrow.Author.Rules.{rules}
use lib.Seq.{length-take-le}
use Rattle.walk.specs.Hand.{flipped_walk}
use Rattle.walk.proofs.Hands.{modules_flipped, settings_flipped}
use Rattle.walk.proofs.hand.Walk.flipped.Goals as goal

pub returns : goal.returns
unfolding flipped_walk
returns c =
    λ i. record {
      n = c.args.self.n;
      k = c.args.self.k;
      modules = modules_flipped _ c.args.self.k _ _ c.requires.1 (length-take-le _ _ (search rules)) c.flip.ensures.modules_after i;
      settings = settings_flipped _ _ _ _ c.requires.1 (length-take-le _ _ (search rules)) c.flip.ensures.settings_after i;
    }
