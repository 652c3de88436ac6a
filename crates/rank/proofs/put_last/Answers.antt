-- `rank::put_last` meets its contract: the rank of n slots is below their weight, which fits. Assumes nothing.
use mathlib.Core.Path.{◌≡◌, ap}
use Prim.Native.Nat.{◌+◌, ◌*◌}
use native.Mathlib.Omega.{arith}
use Rattle.order.specs.Rank.{last_digit_lem}
use Rattle.order.proofs.Recursion.{put_weight, put_lt}
use Rattle.rank.proofs.put_last.Goals.{After-last_digit-digit}
use Rattle.rank.proofs.put_last.Goals as goal

pub last_digit-digit-requires : goal.last_digit-digit-requires
last_digit-digit-requires c = let cell = c.requires.cell in let sizes = c.requires.sizes in omega arith

-- the rank that it returns
product : (c : After-last_digit-digit) →
    let a = c.args in c.last_digit-digit.result * a.others.weight + a.others.rank ≡ last_digit_lem a.n a.v a.c * a.others.weight + a.others.rank
product c = ap (λ d. d * c.args.others.weight + c.args.others.rank) c.last_digit-digit.ensures

pub returns : goal.returns
returns c = (product (goal.at.returns c).After-last_digit-digit, put_weight c.requires)

pub overflow_mul-result : goal.overflow_mul-result
overflow_mul-result c = omega (arith, product (goal.at.overflow_mul-result c).After-last_digit-digit, put_lt c.requires, c.requires.sizes.few)

pub overflow_add-result : goal.overflow_add-result
overflow_add-result c = omega (arith, product (goal.at.overflow_add-result c).After-last_digit-digit, put_lt c.requires, c.requires.sizes.few)

pub overflow_mul-result-3 : goal.overflow_mul-result-3
overflow_mul-result-3 c = omega (arith, put_weight c.requires, c.requires.sizes.few)
