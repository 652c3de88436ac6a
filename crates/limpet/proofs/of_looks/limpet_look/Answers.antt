-- `limpet_look` keeps its promise: where the verdict refuses it shows no length, and else the length found by looking, which is
-- at most n and so fits its bits. Assumes nothing.
use mathlib.Core.Path.{◌∙◌}
use native.Mathlib.Omega.{arith}
use Rattle.arrangement.proofs.Arrangements.{held}
use Rattle.look.proofs.Looks.{look_small}
use Rattle.limpet.specs.Calls.{look_returns}
use Rattle.limpet.proofs.Answers.{refused_returns, done_returns}
use Rattle.limpet.proofs.of_looks.limpet_look.Goals as goal

pub returns-in-Err : goal.returns-in-Err
unfolding look_returns
returns-in-Err c = refused_returns _ c.in-Err.ensures.verdict c.pack_refusal.ensures

pub returns-in-Ok : goal.returns-in-Ok
unfolding look_returns
returns-in-Ok c =
    let made = c.in-Ok.ensures in
    done_returns made.verdict (c.look.ensures ∙ rw (made.sizes.0, made.sizes.1, made.rows.0, made.rows.1)) c.pack_value.ensures

pub pack_value-requires : goal.pack_value-requires
pack_value-requires c = omega (arith, look_small (held c.in-Ok.arrangement) c.look.ensures)
