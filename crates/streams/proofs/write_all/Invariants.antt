-- `streams::write_all` meets its contract. The loop's invariant: what is in front of the rest was written. The measure is the number of
-- bytes left. Assumes nothing.
use Rattle.std.proofs.Common.{length}
use Rattle.streams.proofs.Passings.{Passed}
use Rattle.streams.proofs.write_all.Given as goal

abbrev pub invariant-loop-rest : goal.invariant-loop-rest
invariant-loop-rest g l = Passed (g.W.Write.contents l.initial.output) (g.W.Write.contents l.output) l.text l.rest

abbrev pub decreases-loop-rest : goal.decreases-loop-rest
decreases-loop-rest g l = length l.rest
