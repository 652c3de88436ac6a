-- `unrank::write_lent` meets its contract: where the verdict refuses nothing is written, and else the arrangement of the rank is.
-- Assumes nothing.
use mathlib.Core.Path.{refl, sym}
use Rattle.sizes.proofs.Outcomes.{refused_does, done_does}
use Rattle.order.proofs.Checks.{write_asked}
use Rattle.unrank.specs.Unrank.{unrank_leaves}
use Rattle.unrank.proofs.write_lent.Goals as goal

pub returns-in_err-judge : goal.returns-in_err-judge
unfolding unrank_leaves
returns-in_err-judge c = refused_does tt _ _ _ _ c.from_residual.ensures.1 c.in_err-judge.ensures refl refl

pub invariant_of-sizes : goal.invariant_of-sizes
invariant_of-sizes c = record { permitted = (write_asked _ _ _ _ _ (sym c.in_ok-judge.ensures)).0 }

pub invariant_of-write : goal.invariant_of-write
invariant_of-write c = record { below = (write_asked _ _ _ _ _ (sym c.in_ok-judge.ensures)).1 }

pub write-requires : goal.write-requires
write-requires c =
    let asked = write_asked _ _ _ _ _ (sym c.in_ok-judge.ensures) in (asked.2, asked.3)

pub returns : goal.returns
unfolding unrank_leaves
returns c = done_does _ _ _ _ c.in_ok-judge.ensures refl c.write.ensures.modules_after c.write.ensures.settings_after
