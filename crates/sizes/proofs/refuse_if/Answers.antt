-- `sizes::refuse_if` meets its contract: the fault is there or it is not. Assumes nothing.
use Rattle.sizes.specs.Refusal.{refused_if}
use Rattle.sizes.proofs.refuse_if.Goals as goal

pub returns-then-is_there : goal.returns-then-is_there
unfolding refused_if
returns-then-is_there c = rw c.if-is_there.true

pub returns : goal.returns
unfolding refused_if
returns c = rw c.if-is_there.false
