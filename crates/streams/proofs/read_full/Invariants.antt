-- `streams::read_full` meets its contract. The loop's invariant: the bytes up to `done` were read. The measure is the room that is left.
-- Assumes nothing.
use Rattle.std.proofs.Common.{length, ◌-◌}
use Rattle.streams.proofs.Passings.{Filled}
use Rattle.streams.proofs.read_full.Given as goal

abbrev pub invariant-loop-done : goal.invariant-loop-done
invariant-loop-done g l = Filled (g.R.Read.remaining l.initial.input) (g.R.Read.remaining l.input) l.initial.buffer l.buffer l.done

abbrev pub decreases-loop-done : goal.decreases-loop-done
decreases-loop-done g l = length l.initial.buffer - l.done
