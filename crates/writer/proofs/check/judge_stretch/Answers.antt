-- `writer::check::judge_stretch` meets its contract: it leaves at the first check that refuses. Assumes nothing.
use mathlib.Core.Path.{◌∙◌}
use Rattle.sizes.proofs.Refusals.{stops, goes_on}
use Rattle.writer.specs.Write.{stretch_verdict}
use Rattle.writer.proofs.check.judge_stretch.Goals as goal

pub returns-in_err-start : goal.returns-in_err-start
unfolding stretch_verdict
returns-in_err-start c = stops _ c.from_residual.ensures.1 c.in_err-start.ensures.verdict

pub returns : goal.returns
unfolding stretch_verdict
returns c =
    let made = c.in_ok-start.ensures in
    goes_on made.verdict (c.judge_count.ensures ∙ rw (made.start.0, made.start.1))
