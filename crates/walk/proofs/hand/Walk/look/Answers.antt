-- `walk::hand::Walk::look` meets its contract: it looks at a walk that isn't refused. Assumes nothing.
use Rattle.std.proofs.Common.{Ok}
use mathlib.Core.Path.{ap, ◌∙◌}
use Rattle.sizes.proofs.Refusals.{stops_answer, answers}
use Rattle.walk.specs.Hand.{tells_flip}
use Rattle.walk.proofs.Hands.{looked_in}
use Rattle.walk.proofs.hand.Walk.look.Goals as goal

pub returns-in_err-arrangement : goal.returns-in_err-arrangement
unfolding tells_flip
returns-in_err-arrangement c = stops_answer _ c.from_residual.ensures.1 c.in_err-arrangement.ensures.verdict

pub returns : goal.returns
unfolding tells_flip
returns c =
    let made = c.in_ok-arrangement.ensures in
    answers _ made.verdict (ap Ok (c.look.ensures ∙ looked_in c.args.self c.in_ok-arrangement.arrangement made.sizes made.rows))
