-- `look::next_lent` meets its contract: where the verdict refuses nothing is written, and else the flip found by looking is made.
-- Assumes nothing.
use mathlib.Core.Path.{refl, sym}
use Rattle.sizes.proofs.Outcomes.{refused_does, done_does}
use Rattle.arrangement.proofs.Validity.{accepted}
use Rattle.look.specs.Look.{next_leaves}
use Rattle.look.proofs.next_lent.Goals as goal

pub returns-in_err-judge : goal.returns-in_err-judge
unfolding next_leaves
returns-in_err-judge c = refused_does _ _ _ _ _ c.from_residual.ensures.1 c.in_err-judge.ensures refl refl

pub invariant_of-next : goal.invariant_of-next
invariant_of-next c = record { permitted = (accepted _ _ _ _ (sym c.in_ok-judge.ensures)).sizes }

pub next-requires : goal.next-requires
next-requires c =
    let lent = accepted _ _ _ _ (sym c.in_ok-judge.ensures) in record { lengths = (lent.modules, lent.settings); valid = lent.valid_is }

pub returns : goal.returns
unfolding next_leaves
returns c =
    rw (← c.next.ensures.value) (done_does _ _ _ _ c.in_ok-judge.ensures refl c.next.ensures.modules_after c.next.ensures.settings_after)
