-- `walk::hand::Walk::rank` meets its contract: the rank of a walk that isn't refused depends on the first n places alone. Assumes
-- nothing.
use Rattle.std.proofs.Common.{Ok}
use mathlib.Core.Path.{ap, ◌∙◌}
use Rattle.sizes.proofs.Refusals.{stops_answer, answers}
use Rattle.walk.specs.Hand.{tells_rank}
use Rattle.walk.proofs.Hands.{ranked_in}
use Rattle.walk.proofs.hand.Walk.rank.Goals as goal

pub returns-in_err-arrangement : goal.returns-in_err-arrangement
unfolding tells_rank
returns-in_err-arrangement c = stops_answer _ c.from_residual.ensures.1 c.in_err-arrangement.ensures.verdict

pub returns : goal.returns
unfolding tells_rank
returns c =
    let made = c.in_ok-arrangement.ensures in
    answers _ made.verdict (ap Ok (c.rank.ensures ∙ ranked_in c.args.self c.in_ok-arrangement.arrangement made.sizes made.rows))
