use native.Mathlib.Omega.{arith}
use Rattle.board.proofs.Writing.{run_stopped, running_on, run_reached}
use Rattle.board.proofs.digits.run_end.Goals.{else-loop-end-test, then-loop-end-test+else-not-is_full+else-end-end-end}
use Rattle.board.proofs.digits.run_end.Goals as goal

pub returns-then-not-is_full : goal.returns-then-not-is_full
returns-then-not-is_full c = run_stopped c.loop-end.invariant c.is_full.ensures c.if-not-is_full.true

pub loop-end-preserved : goal.loop-end-preserved
loop-end-preserved c = running_on c.loop-end.invariant c.is_full.ensures c.loop-end-test.true c.if-not-is_full.false

pub returns : goal.returns
returns c =
    elim c.loop-end-test.branch [
      | else-loop-end-test w ↦ run_reached c.loop-end.invariant w.loop-end-test.false
      | then-loop-end-test+else-not-is_full+else-end-end-end w ↦
          run_reached (running_on c.loop-end.invariant w.is_full.ensures w.loop-end-test.true w.if-not-is_full.false) (omega arith)
    ]
