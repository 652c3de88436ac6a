-- `stretch::pair::count_by` meets its contract. The loop's invariant: i arrangements are counted, and the board and the seats are
-- those of the next one. Assumes nothing.
use Rattle.stretch.proofs.Counts.{Counted}
use Rattle.stretch.proofs.pair.count_by.Given as goal

abbrev pub invariant-loop : goal.invariant-loop
invariant-loop l =
    Counted l.n l.k l.rank l.pair.v l.pair.c l.pair.w l.pair.e l.counters l.pointers l.first.slot l.first.setting l.second.slot l.second.setting l.count l.counter
