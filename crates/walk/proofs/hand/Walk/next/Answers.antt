-- `walk::hand::Walk::next` meets its contract: the flip found by looking is made, unless the walk is refused. Assumes nothing.
use mathlib.Core.Path.{refl, sym, ◌∙◌, ap}
use native.Mathlib.Omega.{arith}
use Rattle.walk.specs.Hand.{flipped_walk, moves_on}
use Rattle.walk.proofs.Hands.{walk_asked, looked_in, looked_high, handed_done, handed_kept}
use Rattle.walk.proofs.hand.Walk.next.Goals as goal

pub returns-in-Ok : goal.returns-in-Ok
unfolding moves_on
returns-in-Ok c =
    let made = c.in-Ok.ensures in
    let flip = c.look-j.ensures ∙ looked_in c.args.self c.in-Ok.arrangement made.sizes made.rows in
    handed_done _ made.verdict (λ i. record { flip = flip i; walk = (c.flipped.ensures ∙ ap (λ j. flipped_walk j c.args.self) flip) i })

pub returns-in-Err : goal.returns-in-Err
unfolding moves_on
returns-in-Err c = handed_kept _ c.in-Err.ensures.verdict refl

pub flipped-requires : goal.flipped-requires
flipped-requires c =
    let made = c.in-Ok.ensures in
    (walk_asked _ (sym made.verdict), omega (arith, c.look-j.ensures, looked_high c.args.self c.in-Ok.arrangement made.sizes made.rows))
