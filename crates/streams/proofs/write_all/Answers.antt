use Rattle.streams.proofs.Passings.{passed_on}
use Rattle.streams.proofs.write_all.Goals as goal

pub loop-rest-preserved : goal.loop-rest-preserved
loop-rest-preserved g c = passed_on _ c.loop-rest.invariant c.write.ensures.bytes c.write.ensures.bound c.unwrap_or-count.ensures
