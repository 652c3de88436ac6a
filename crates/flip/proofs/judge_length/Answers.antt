-- `flip::judge_length` meets its contract: it is the definition. Assumes nothing.
use mathlib.Core.Path.{◌∙◌, ap}
use Rattle.sizes.specs.declared.Fault.TheVariants.{Flip}
use Rattle.sizes.specs.Refusal.{refused_if}
use Rattle.flip.specs.Flip.{flip_length_verdict}
use Rattle.flip.proofs.judge_length.Goals as goal

pub returns : goal.returns
unfolding flip_length_verdict
returns c = c.refuse_if.ensures ∙ ap (refused_if Flip) c.outside.ensures
