-- `limpet_round` keeps its promise: it packs the verdict of the sizes. Assumes nothing.
use native.Mathlib.Omega.{arith}
use mathlib.Core.Path.{◌≡◌, ◌∙◌}
use Rattle.limpet.specs.Calls.{round_returns}
use Rattle.limpet.proofs.of_sizes.limpet_round.Goals as goal

pub returns : goal.returns
unfolding round_returns
returns c =
    let packed : c.pack_verdict.result ≡ round_returns c.args.n c.args.k = c.pack_verdict.ensures ∙ rw c.judge.ensures in
    record { returned_is = omega (arith, packed) }
