use Rattle.std.proofs.Common.{◌∙◌, arith}
use lib.ListN.{length-drop}
use lib.Seq.{length-take-le}
use Rattle.streams.proofs.Passings.{filled_on}
use Rattle.streams.proofs.read_full.Goals as goal

pub loop-done-preserved : goal.loop-done-preserved
loop-done-preserved g c = filled_on _ _ c.loop-done.invariant (c.read.auto.buf ∙ length-take-le _ _ (omega (arith, length-drop c.loop-done.done c.loop-done.buffer))) c.read.ensures.bytes c.read.ensures.bound c.unwrap_or-count.ensures
