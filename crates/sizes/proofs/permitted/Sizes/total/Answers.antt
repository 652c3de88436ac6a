use mathlib.Core.Path.{sym}
use native.Mathlib.Omega.{arith}
use Rattle.sizes.proofs.Weights.{weight_zero, one_more, product_fits}
use Rattle.sizes.proofs.permitted.Sizes.total.Goals as goal

pub loop-i-preserved : goal.loop-i-preserved
loop-i-preserved c = one_more _ _ c.loop-i.invariant

pub loop-i-init : goal.loop-i-init
loop-i-init c = sym (weight_zero _)

pub overflow_mul-t-in-loop-i : goal.overflow_mul-t-in-loop-i
overflow_mul-t-in-loop-i c = omega (arith, product_fits c.args.self.permitted c.loop-i.i c.loop-i-test.true c.loop-i.invariant)
