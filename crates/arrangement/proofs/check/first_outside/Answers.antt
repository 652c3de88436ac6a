use mathlib.Core.Path.{◌≡◌, sym}
use native.Mathlib.Omega.{arith}
use lib.ListN.{length}
use Rattle.rows.proofs.Searches.{none_yet, passed, found}
use Rattle.arrangement.specs.Check.{place_found}
use Rattle.arrangement.proofs.check.first_outside.Goals as goal

pub loop-i-init : goal.loop-i-init
loop-i-init c = none_yet _

pub returns-then-outside : goal.returns-then-outside
unfolding place_found
returns-then-outside c =
    let out = rw c.from.ensures at c.if-outside.ensures in sym (found _ _ _ c.loop-i.invariant (sym out) c.loop-i-test.true)

pub loop-i-preserved : goal.loop-i-preserved
loop-i-preserved c =
    let kept = rw c.from.ensures at c.if-outside.ensures in passed _ _ c.loop-i.invariant (sym kept)

pub returns : goal.returns
unfolding place_found
returns c =
    let e : c.loop-i.i ≡ length c.args.slots.now = omega arith in sym (rw e at c.loop-i.invariant)
