use Prim.Native.Nat.{◌+◌}
use mathlib.Core.Path.{◌≡◌, sym, ◌∙◌}
use Rattle.rows.specs.Row.{at}
use Rattle.rows.specs.Search.{if_lt}
use Rattle.rows.proofs.Cases.{if_lt_lem, if_ge}
use Rattle.board.proofs.Readings.{reading_first, reading_on}
use Rattle.board.proofs.read.read_digits.Goals.{Joined-i-pointer, then-i-pointer, else-i-pointer}
use Rattle.board.proofs.read.read_digits.Goals as goal

pub loop-i-init : goal.loop-i-init
loop-i-init c = reading_first

-- the end that the pointers say, with one more
end_met : (c : Joined-i-pointer) →
    let pointer = at c.args.board.pointers.now c.loop-i.i in
    c.if-i-pointer.end ≡ if_lt (c.loop-i.i + 1) pointer pointer c.loop-i.end
end_met c =
    let is = c.from-pointer.ensures in
    elim c.if-i-pointer.branch [
      | then-i-pointer w ↦ w.end-is ∙ is ∙ sym (if_lt_lem _ _ (rw is at w.if-i-pointer.true))
      | else-i-pointer w ↦ w.end-is ∙ sym (if_ge _ _ (rw is at w.if-i-pointer.false))
    ]

pub loop-i-preserved : goal.loop-i-preserved
loop-i-preserved c =
    reading_on c.args.board.sizes.permitted c.loop-i.invariant c.loop-i-test.true (end_met (goal.at.loop-i-preserved c).Joined-i-pointer) c.read_digit.ensures
