use mathlib.Core.Path.{◌≡◌, sym}
use native.Mathlib.Omega.{arith}
use lib.ListN.{length}
use borrow.Author.Rules.{rules}
use borrow.Author.Tests.{ne_eqb}
use Rattle.rows.specs.Row.{at}
use Rattle.rows.proofs.Searches.{none_yet, passed, found}
use Rattle.arrangement.specs.Check.{place_found}
use Rattle.arrangement.proofs.Checks.{stands_once, stands_twice}
use Rattle.arrangement.proofs.check.repeated_module.Goals as goal

pub slots-init : goal.slots-init
slots-init c = (search rules, none_yet _)

pub loop-h-init : goal.loop-h-init
loop-h-init c = (search rules, none_yet _)

pub loop-h-preserved : goal.loop-h-preserved
loop-h-preserved c = (search rules, passed _ _ c.loop-h.invariant.1 (ne_eqb _ _ c.if-modules-h.false))

pub slots-preserved : goal.slots-preserved
slots-preserved c =
    let i = c.slots.i in
    let all : c.loop-h.h ≡ i = omega arith in
    (search rules, passed _ _ c.slots.invariant.1 (stands_once _ i (rw all at c.loop-h.invariant.1)))

pub returns-after-slots : goal.returns-after-slots
unfolding place_found
returns-after-slots c =
    let all : c.slots.i ≡ length c.args.modules.now = omega arith in
    rw c.slots.invariant.0 (sym (rw all at c.slots.invariant.1))

pub returns-then-modules-h : goal.returns-then-modules-h
unfolding place_found
returns-then-modules-h c =
    let twice = stands_twice (at c.args.modules.now) c.slots.i c.loop-h.h c.loop-h.invariant.1 c.if-modules-h.true c.loop-h-test.true in
    sym (found _ _ _ c.slots.invariant.1 twice c.slots-test.true)
