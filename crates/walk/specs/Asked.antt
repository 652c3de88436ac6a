-- What the functions on walks in hand ask of their callers, who have made the checks.
use Rattle.rows.specs.Row.{at}
use Rattle.sizes.specs.Sizes.{Permitted}
use Rattle.arrangement.specs.Arrangement.{Valid}
use Rattle.walk.specs.declared.hand.Walk.{Walk}

-- a valid arrangement in the first n places
pub record PlacesAsked (w : Walk) : Type 0 where
  pub sizes : Permitted w.n w.k
  pub valid : Valid w.n w.k (at w.modules) (at w.settings)
