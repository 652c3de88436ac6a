use Prim.Native.Nat.{◌+◌}
use mathlib.Core.Path.{◌≡◌, sym, ◌∙◌}
use mathlib.Core.Bool.{cond}
use native.Mathlib.Omega.{arith}
use Rattle.stretch.specs.Asked.{StretchAsked}
use Rattle.stretch.proofs.Counts.{counted_first, step_asked, counted_on}
use Rattle.stretch.proofs.pair.count_by.Goals.{At-loop, Joined-stand_together, then-stand_together, else-stand_together}
use Rattle.stretch.proofs.pair.count_by.Goals as goal

pub loop-init : goal.loop-init
loop-init c =
    counted_first c.requires.asked c.write.ensures c.seat_of-first.ensures c.seat_of-second.ensures

-- what was asked, at the loop
asked : (c : At-loop) → let s = c.args.stretch in StretchAsked s.n s.k s.rank s.t
asked c = c.requires.asked

pub step-stepped-requires : goal.step-stepped-requires
step-stepped-requires c = step_asked (asked (goal.at.step-stepped-requires c).At-loop) c.loop.invariant

-- the count, with the arrangement that was tried
counted : (c : Joined-stand_together) → c.if-stand_together.count ≡ c.loop.count + cond c.stand_together.result 1 0
counted c =
    elim c.if-stand_together.branch [
      | then-stand_together w ↦ w.count-is ∙ sym (rw w.if-stand_together.true)
      | else-stand_together w ↦ w.count-is ∙ sym (rw w.if-stand_together.false (omega arith))
    ]

pub loop-preserved : goal.loop-preserved
loop-preserved c =
    counted_on (asked (goal.at.loop-preserved c).At-loop) c.loop.invariant c.stand_together.ensures (counted (goal.at.loop-preserved c).Joined-stand_together)
    c.step-stepped.ensures.flip_value c.step-stepped.ensures.counters_after c.step-stepped.ensures.pointers_after c.turn-first.ensures c.turn-second.ensures
