use native.Mathlib.Omega.{arith}
use Rattle.sizes.proofs.Weights.{product_fits}
use Rattle.board.proofs.Readings.{ranking_first, rank_fits, ranking_on}
use Rattle.board.proofs.read.rank_of.Goals as goal

pub loop-i-preserved : goal.loop-i-preserved
loop-i-preserved c = rw c.from.ensures (ranking_on c.args.sizes.permitted c.requires c.loop-i.invariant c.loop-i-test.true)

pub loop-i-init : goal.loop-i-init
loop-i-init c = ranking_first

pub overflow_mul-rank : goal.overflow_mul-rank
overflow_mul-rank c = rw c.from.ensures (omega (arith, rank_fits c.args.sizes.permitted c.requires c.loop-i.invariant c.loop-i-test.true))

pub overflow_add-rank : goal.overflow_add-rank
overflow_add-rank c = rw c.from.ensures (omega (arith, rank_fits c.args.sizes.permitted c.requires c.loop-i.invariant c.loop-i-test.true))

pub overflow_mul-weight-in-loop-i : goal.overflow_mul-weight-in-loop-i
overflow_mul-weight-in-loop-i c =
    omega (arith, product_fits c.args.sizes.permitted c.loop-i.i c.loop-i-test.true c.loop-i.invariant.weight_is)
