-- `board::read::rank_of` meets its contract. The loop's invariant: the rank is that of the first i digits, and the weight that of
-- i places. Neither is above T, so nothing wraps. Assumes nothing.
use Rattle.board.proofs.Readings.{Ranking}
use Rattle.board.proofs.read.rank_of.Given as goal

abbrev pub invariant-loop-i : goal.invariant-loop-i
invariant-loop-i l = Ranking l.sizes.n l.sizes.k l.digits l.rank l.weight l.i
