use mathlib.Core.Path.{◌∙◌}
use native.Mathlib.Omega.{arith}
use Rattle.rows.proofs.Rows.{begun, stored}
use Rattle.board.proofs.Writing.{counter_at}
use Rattle.board.proofs.digits.counters.Goals as goal

pub loop-i-init : goal.loop-i-init
loop-i-init c = begun _ _

pub loop-i-preserved : goal.loop-i-preserved
loop-i-preserved c =
    stored _ _ _ c.loop-i.invariant (omega (arith, c.args.sizes.permitted.n_high)) (c.counter.ensures ∙ counter_at _ _ _)
