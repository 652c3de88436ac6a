use mathlib.Core.Path.{◌∙◌, ap}
use Rattle.sizes.specs.Refusal.{fine}
use Rattle.book.proofs.Checks.{none_judged, entry_passed, stops_in}
use Rattle.writer.specs.Write.{stretch_verdict}
use Rattle.writer.proofs.check.judge_stretches.Goals as goal

pub loop-i-init : goal.loop-i-init
loop-i-init c = none_judged _

pub returns-in_err-in_entry : goal.returns-in_err-in_entry
returns-in_err-in_entry c =
    (stops_in _ fine c.loop-i.invariant c.loop-i-test.true (c.judge_stretch.ensures ∙ ap stretch_verdict c.stretch_at.ensures) c.from_residual.ensures.1 c.in_err-in_entry.ensures).0

pub loop-i-preserved : goal.loop-i-preserved
loop-i-preserved c =
    entry_passed _ c.loop-i.invariant (c.judge_stretch.ensures ∙ ap stretch_verdict c.stretch_at.ensures) c.in_ok-in_entry.ensures
