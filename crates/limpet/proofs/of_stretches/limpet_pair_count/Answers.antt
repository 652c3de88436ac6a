-- `limpet_pair_count` keeps its promise: where the verdict refuses it shows no count, and else the pair count, which is at most t
-- and so fits its bits. Assumes nothing.
use mathlib.Core.Path.{sym}
use native.Mathlib.Omega.{arith}
use Rattle.stretch.proofs.Checks.{pair_asked}
use Rattle.limpet.specs.Calls.{pair_returns}
use Rattle.limpet.proofs.Answers.{refused_returns, done_returns}
use Rattle.limpet.proofs.of_stretches.limpet_pair_count.Goals as goal

pub returns-in-Err : goal.returns-in-Err
unfolding pair_returns
returns-in-Err c = refused_returns _ c.in-Err.ensures c.pack_refusal.ensures

pub returns-in-Ok : goal.returns-in-Ok
unfolding pair_returns
returns-in-Ok c = done_returns c.in-Ok.ensures c.count.ensures.0 c.pack_value.ensures

pub count-requires : goal.count-requires
count-requires c = pair_asked _ _ _ _ _ _ _ _ (sym c.in-Ok.ensures)

pub pack_value-requires : goal.pack_value-requires
pack_value-requires c =
    omega (arith, c.count.ensures.1, (pair_asked _ _ _ _ _ _ _ _ (sym c.in-Ok.ensures)).count)
