-- `text::write::put_each` meets its contract. The loop's invariant: as many slots are put as were yielded. Assumes nothing.
use Rattle.std.proofs.Common.{length}
use Rattle.text.proofs.Lines.{Listed}
use Rattle.text.proofs.write.put_each.Given as goal

abbrev pub invariant-loop-module : goal.invariant-loop-module
invariant-loop-module g l =
    (goal.iterator-loop-module g).can_next l.module-iterator ×
    (goal.iterator-loop-module g).is_finite l.module-iterator ×
    Listed l.initial.out.items l.modules l.settings l.out.items l.module-iterator.a.rest.now l.module-iterator.b.rest.now (length l.yielded)
