-- `look::look` meets its contract. The loop's invariant: the slots that it has passed are falling, and it has the cell in front,
-- its setting raised, and how far down it has come. Assumes nothing.
use Rattle.rows.specs.Row.{at}
use Rattle.look.proofs.Looks.{Looking}
use Rattle.look.proofs.look.Given as goal

abbrev pub invariant-loop-next : goal.invariant-loop-next
invariant-loop-next l = Looking l.arrangement.sizes.n l.arrangement.sizes.k (at l.arrangement.modules.now) (at l.arrangement.settings.now) l.front l.setting l.raised l.reached l.next
