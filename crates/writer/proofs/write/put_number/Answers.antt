use mathlib.Core.Path.{◌≡◌, refl, ap}
use native.Mathlib.Omega.{arith}
use Rattle.rows.proofs.Puts.{put_as}
use Rattle.book.specs.Format.{bytes_of}
use Rattle.writer.proofs.Pieces.{numbered_first, numbered_on}
use Rattle.writer.proofs.write.put_number.Goals as goal

pub loop-i-init : goal.loop-i-init
loop-i-init c = (numbered_first _ _ _)

pub loop-i-preserved : goal.loop-i-preserved
loop-i-preserved c =
    (numbered_on c.loop-i.invariant (omega (arith, c.requires, c.loop-i-test.true)) refl)

pub returns : goal.returns
returns c =
    let all : c.loop-i.i ≡ c.args.width = omega arith in
    put_as (ap (λ w. bytes_of w c.args.number) all) (omega (arith, all)) c.loop-i.invariant.put
