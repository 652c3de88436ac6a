-- `arrangement::check::refuse_at` meets its contract: a slot was found or none was. Assumes nothing.
use Prim.Native.Nat.{◌+◌}
use mathlib.Core.Path.{sym}
use native.Mathlib.Omega.{arith}
use borrow.Author.Rules.{rules}
use Rattle.sizes.specs.Refusal.{refused_at_lem}
use Rattle.sizes.proofs.Refusals.{at_place}
use Rattle.arrangement.specs.Check.{place_found}
use Rattle.arrangement.proofs.check.refuse_at.Goals as goal

pub returns-in-None : goal.returns-in-None
unfolding refused_at_lem place_found
returns-in-None c = search rules

pub returns-in-Some : goal.returns-in-Some
unfolding place_found
returns-in-Some c = rw c.in-Some.is (sym (at_place c.args.fault (c.in-Some.slot + 1) (λ z. absurd (omega arith))))

pub overflow_add-result : goal.overflow_add-result
unfolding place_found
overflow_add-result c = search rules

pub overflow_cast-result : goal.overflow_cast-result
unfolding place_found
overflow_cast-result c = search rules
