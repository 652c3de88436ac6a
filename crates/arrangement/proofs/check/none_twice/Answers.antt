use Prim.Native.Nat.{◌+◌, ◌<◌}
use mathlib.Core.Path.{◌≡◌, ◌∙◌, ap}
use native.Mathlib.Omega.{arith}
use lib.ListN.{set}
use Rattle.rows.specs.Row.{at}
use Rattle.rows.specs.Copy.{wide}
use Rattle.rows.proofs.Rows.{at_row}
use Rattle.arrangement.proofs.Marks.{mark, unmarked, marked, Tally, tally_begun, tally_on}
use Rattle.arrangement.proofs.check.none_twice.Goals.{In-loop-module}
use Rattle.arrangement.proofs.check.none_twice.Goals as goal

pub loop-module-init : goal.loop-module-init
loop-module-init c = (unmarked _, tally_begun _)

-- the module of a slot has a mark of its own, and what it is
low : (c : In-loop-module) → at c.args.modules.now c.loop-module.module-index < wide
low c = c.requires.low _ c.loop-module-test.true

counted : (c : In-loop-module) →
    let M = at c.args.modules.now in
    let i = c.loop-module.module-index in at c.loop-module.stands (M i) ≡ mark M i (M i)
counted c =
    ap (λ xs. at xs (at c.args.modules.now c.loop-module.module-index)) c.loop-module.invariant.0 ∙ at_row _ wide _ (low c)

tallied : (c : In-loop-module) →
    let M = at c.args.modules.now in
    let i = c.loop-module.module-index in Tally M (i + 1) (c.loop-module.twice + at c.loop-module.stands (M i))
tallied c = rw (counted c) (tally_on _ _ _ c.loop-module.invariant.1)

pub overflow_add-twice : goal.overflow_add-twice
overflow_add-twice c =
    rw c.from-module.ensures
    (omega (arith, (tallied (goal.at.overflow_add-twice c).In-loop-module).few, c.requires.few, c.loop-module-test.true))

pub loop-module-preserved : goal.loop-module-preserved
loop-module-preserved c =
    let M = at c.args.modules.now in
    let inside = (goal.at.loop-module-preserved c).In-loop-module in
    rw c.from-module.ensures
    (ap (λ xs. set xs (M c.loop-module.module-index) 1) c.loop-module.invariant.0 ∙ marked M _ (low inside), tallied inside)
