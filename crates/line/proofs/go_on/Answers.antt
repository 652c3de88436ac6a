-- `line::go_on` meets its contract: its tests are those of the definition. Assumes nothing.
use Rattle.std.proofs.Common.{arith}
use Rattle.line.proofs.Readings.{goes_digit, goes_on, some_as}
use Rattle.line.proofs.go_on.Goals as goal

pub returns-then-value-eq0 : goal.returns-then-value-eq0
returns-then-value-eq0 c = λ e.
    let d = goes_digit _ _ e in omega (arith, c.then-value-eq0.either, d.low, d.high, d.some)

pub returns-in_err-checked_mul : goal.returns-in_err-checked_mul
returns-in_err-checked_mul c =
    rw c.from_residual.ensures (λ e. c.in_err-checked_mul.ensures (omega (arith, (goes_digit _ _ e).fits)))

pub returns : goal.returns
returns c =
    let made = c.in_ok-checked_mul.ensures in
    some_as _ c.checked_add.ensures (λ fits. goes_on _ _ (omega arith) (omega arith) (omega arith) (omega (arith, made.1))) (λ e. omega (arith, (goes_digit _ _ e).fits)) (omega arith)
