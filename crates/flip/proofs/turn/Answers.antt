use mathlib.Core.Path.{sym, ◌∙◌}
use native.Mathlib.Omega.{arith}
use Rattle.rows.proofs.Rows.{begun, stored}
use Rattle.flip.proofs.Flips.{module_front, setting_front}
use Rattle.flip.proofs.turn.Goals as goal

pub loop-i-init : goal.loop-i-init
loop-i-init c = (begun _ _, begun _ _)

pub loop-i-preserved : goal.loop-i-preserved
loop-i-preserved c =
    let inv = c.loop-i.invariant in (
      stored _ _ _ inv.0 (omega arith) (sym (module_front _ _ _ (omega arith))),
      stored _ _ _ inv.1 (omega arith) (c.raise.ensures ∙ sym (setting_front _ _ _ _ (omega arith))),
    )
