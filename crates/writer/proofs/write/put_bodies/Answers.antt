use Rattle.writer.specs.Write.{Lists, lent as lent_to}
use Rattle.writer.proofs.Pieces.{joined_first, body_room, bodies_on}
use Rattle.writer.proofs.write.put_bodies.Goals.{At-loop-i}
use Rattle.writer.proofs.write.put_bodies.Goals as goal

-- what was lent
abbrev lent : (c : At-loop-i) → Lists
lent c = lent_to c.args.stretches.lists

pub loop-i-init : goal.loop-i-init
loop-i-init c = (joined_first _)

pub loop-i-preserved : goal.loop-i-preserved
loop-i-preserved c =
    let pre = c.requires in
    bodies_on (lent (goal.at.loop-i-preserved c).At-loop-i) pre.1 pre.2 c.loop-i.i c.loop-i.invariant c.loop-i-test.true c.stretch_at.ensures c.put_body-end.ensures

pub put_body-end-requires : goal.put_body-end-requires
put_body-end-requires c =
    let pre = c.requires in
    let stretch = c.stretch_at.ensures in
    (body_room (lent (goal.at.put_body-end-requires c).At-loop-i) pre.1 pre.2 c.loop-i.i c.loop-i.invariant c.loop-i-test.true stretch, (rw stretch (pre.0.bookable _ c.loop-i-test.true)))
