use mathlib.Core.Path.{◌≡◌, refl}
use native.Mathlib.Omega.{arith}
use lib.ListN.{length}
use Rattle.rows.proofs.Rows.{begun, stored, rewritten}
use Rattle.book.specs.Format.{format_one}
use Rattle.book.proofs.format.take_body.Goals as goal

pub loop-i-init : goal.loop-i-init
loop-i-init c = (begun _ _, begun _ _)

pub loop-i-preserved : goal.loop-i-preserved
unfolding format_one
loop-i-preserved c = (stored _ _ _ c.loop-i.invariant.0 (omega arith) refl, stored _ _ _ c.loop-i.invariant.1 (omega arith) refl)

pub returns : goal.returns
returns c =
    let all : c.loop-i.i ≡ length c.args.body.now = omega arith in
    record {
      modules_after = rewritten _ _ _ _ c.loop-i.invariant.0 all c.requires.0;
      settings_after = rewritten _ _ _ _ c.loop-i.invariant.1 all c.requires.1;
    }
