-- `limpet_check` keeps its promise: it packs the verdict of the arrangement. Assumes nothing.
use mathlib.Core.Path.{◌∙◌}
use Rattle.limpet.specs.Calls.{check_returns}
use Rattle.limpet.proofs.of_arrangements.limpet_check.Goals as goal

pub returns : goal.returns
unfolding check_returns
returns c = record { returned_is = c.pack_verdict.ensures ∙ rw c.judge.ensures }
