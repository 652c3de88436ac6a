-- `arrangement::lent::Arrangement::new` meets its contract: what the check lets pass is valid, and in rows of n bytes. Assumes
-- nothing.
use mathlib.Core.Path.{sym}
use Rattle.arrangement.proofs.Validity.{accepted}
use Rattle.arrangement.proofs.lent.Arrangement.new.Goals as goal

pub invariant_of-result : goal.invariant_of-result
invariant_of-result c = record { permitted = (accepted _ _ _ _ (sym c.in_ok-judge.ensures)).sizes }

pub invariant_of-result-2 : goal.invariant_of-result-2
invariant_of-result-2 c =
    let made = accepted _ _ _ _ (sym c.in_ok-judge.ensures) in
    record { modules_long = made.modules; settings_long = made.settings; valid = made.valid_is }
