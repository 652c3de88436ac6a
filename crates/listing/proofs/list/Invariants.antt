-- `listing::list` is safe and ends. The loop's invariant: the walk is at some rank below T. Assumes nothing.
use Rattle.listing.proofs.Walks.{Stands}
use Rattle.listing.proofs.list.Given as goal

abbrev pub invariant-loop : goal.invariant-loop
invariant-loop g l = Stands l.fn.numbers.n l.fn.numbers.k l.walk
