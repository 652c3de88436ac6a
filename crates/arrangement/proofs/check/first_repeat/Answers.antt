-- `arrangement::check::first_repeat` meets its contract: where no module stands twice there is no slot to find. Assumes nothing.
use mathlib.Core.Path.{sym, ◌∙◌}
use borrow.Author.Tests.{eqb-true}
use Rattle.arrangement.specs.Check.{place_found}
use Rattle.arrangement.proofs.check.first_repeat.Goals as goal

pub returns-then-none_twice : goal.returns-then-none_twice
unfolding place_found
returns-then-none_twice c = sym (eqb-true _ _ (sym c.none_twice.ensures ∙ c.if-none_twice.true))
