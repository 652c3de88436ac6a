-- `writer::check::judge_stretches` meets its contract. The loop's invariant: the stretches passed are Fine. Assumes nothing.
use mathlib.Core.Path.{◌≡◌}
use Rattle.sizes.specs.Refusal.{fine}
use Rattle.book.specs.Read.{first_of}
use Rattle.writer.specs.Write.{lent, stretch_at_lem, stretch_verdict}
use Rattle.writer.proofs.check.judge_stretches.Given as goal

abbrev pub invariant-loop-i : goal.invariant-loop-i
invariant-loop-i l = first_of (λ j. stretch_verdict (stretch_at_lem (lent l.stretches.lists) j)) l.i ≡ fine
