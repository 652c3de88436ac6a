-- `limpet_round_total` keeps its promise: 0 where the sizes are refused, and else T. Assumes nothing.
use mathlib.Core.Path.{◌∙◌}
use Rattle.sizes.proofs.Refusals.{refused_number, done_number}
use Rattle.limpet.specs.Calls.{total_returns}
use Rattle.limpet.proofs.of_sizes.limpet_round_total.Goals as goal

pub returns-in-Err : goal.returns-in-Err
unfolding total_returns
returns-in-Err c = record { returned_is = refused_number _ c.in-Err.ensures.verdict }

pub returns-in-Ok : goal.returns-in-Ok
unfolding total_returns
returns-in-Ok c =
    let made = c.in-Ok.ensures in
    record { returned_is = done_number made.verdict (c.total.ensures ∙ rw (made.sizes.0, made.sizes.1)) }
