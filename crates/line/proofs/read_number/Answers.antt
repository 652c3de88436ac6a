use Rattle.std.proofs.Common.{arith}
use Rattle.line.proofs.Readings.{no_byte, no_digit, reading_first, reading_on, reading_ends, stuck, run_out}
use Rattle.line.proofs.read_number.Goals.{then-first-lt48-via-then-first-lt48, then-first-lt48-via-else-first-lt48+then-first-gt57}
use Rattle.line.proofs.read_number.Goals as goal

pub returns-in_err-first : goal.returns-in_err-first
returns-in_err-first c = rw c.from_residual.ensures (no_byte _ _ c.requires c.in_err-first.ensures.cases)

pub returns-then-first-lt48 : goal.returns-then-first-lt48
returns-then-first-lt48 c =
    no_digit _ c.requires c.in_ok-first.ensures.cases.0 (λ low high. elim c.then-first-lt48.branch [ then-first-lt48-via-then-first-lt48 w ↦ omega arith | then-first-lt48-via-else-first-lt48+then-first-gt57 w ↦ omega arith ])

pub loop-i-init : goal.loop-i-init
loop-i-init c = reading_first c.in_ok-first.ensures.cases.0 (omega arith) (omega arith) c.from-value.ensures

pub returns-then-byte-end : goal.returns-then-byte-end
returns-then-byte-end c = reading_ends c.loop-i.invariant c.loop-i-test.true c.if-byte-end.true

pub returns-in_err-value : goal.returns-in_err-value
returns-in_err-value c = rw c.from_residual-in_err-value.ensures (stuck _ c.requires c.loop-i.invariant c.loop-i-test.true c.if-byte-end.false c.in_err-value.ensures)

pub loop-i-preserved : goal.loop-i-preserved
loop-i-preserved c = reading_on c.loop-i.invariant c.loop-i-test.true c.in_ok-value.ensures

pub returns : goal.returns
returns c = run_out _ c.requires c.loop-i.invariant c.loop-i-test.false
