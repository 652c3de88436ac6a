-- `limpet_rank_value` keeps its promise: 0 where the arrangement is refused, and else its rank. Assumes nothing.
use mathlib.Core.Path.{◌∙◌}
use Rattle.sizes.proofs.Refusals.{refused_number, done_number}
use Rattle.limpet.specs.Calls.{rank_value_returns}
use Rattle.limpet.proofs.of_ranks.limpet_rank_value.Goals as goal

pub returns-in-Err : goal.returns-in-Err
unfolding rank_value_returns
returns-in-Err c = record { returned_is = refused_number _ c.in-Err.ensures.verdict }

pub returns-in-Ok : goal.returns-in-Ok
unfolding rank_value_returns
returns-in-Ok c =
    let made = c.in-Ok.ensures in
    record { returned_is = done_number made.verdict (c.rank.ensures ∙ rw (made.sizes.0, made.sizes.1, made.rows.0, made.rows.1)) }
