-- `entry::read_lent` meets its contract: where the verdict refuses nothing is written, and else the arrangement of the entry is, with
-- its n and k for number. Assumes nothing.
use Prim.Native.Nat.{◌+◌, ◌*◌}
use mathlib.Core.Path.{◌≡◌, refl, sym, ap₂}
use Rattle.sizes.proofs.Outcomes.{refused_does, done_does}
use Rattle.book.proofs.Checks.{lent_fine}
use Rattle.entry.specs.Entry.{entry_number, entry_leaves}
use Rattle.entry.proofs.read_lent.Goals.{After-settings}
use Rattle.entry.proofs.read_lent.Goals as goal

pub returns-in_err-judge : goal.returns-in_err-judge
unfolding entry_leaves
returns-in_err-judge c = refused_does _ _ _ _ _ c.from_residual.ensures.1 c.in_err-judge.ensures refl refl

pub invariant_of-asked : goal.invariant_of-asked
invariant_of-asked c = record { fine = (lent_fine _ _ _ _ _ (sym c.in_ok-judge.ensures)).0 }

pub write-requires : goal.write-requires
write-requires c = let lent = lent_fine _ _ _ _ _ (sym c.in_ok-judge.ensures) in (lent.1, lent.2)

-- n and k, as one number
number_is : (c : After-settings) →
    let a = c.args in
    c.slots.result + 256 * c.settings.result ≡ entry_number a.book.now a.entry
unfolding entry_number
number_is c = ap₂ (λ n k. n + 256 * k) c.slots.ensures.0 c.settings.ensures.0

pub returns : goal.returns
unfolding entry_leaves
returns c =
    done_does _ _ _ _ c.in_ok-judge.ensures (number_is (goal.at.returns c).After-settings) c.write.ensures.modules_after c.write.ensures.settings_after
