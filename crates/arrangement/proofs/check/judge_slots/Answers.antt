-- `arrangement::check::judge_slots` meets its contract: each search has the place that its check names, and the first of the
-- three that refuses is answered. Assumes nothing.
use mathlib.Core.Path.{◌≡◌, refl, sym, ◌∙◌}
use native.Mathlib.Omega.{arith}
use Rattle.rows.specs.Row.{at}
use Rattle.rows.specs.Search.{lowest}
use Rattle.sizes.specs.declared.Fault.TheVariants.{Module, Repeat, Setting}
use Rattle.sizes.specs.Refusal.{refused_at_lem}
use Rattle.sizes.proofs.Refusals.{stops, goes_on}
use Rattle.arrangement.specs.Check.{bad_module, repeated, slots_verdict}
use Rattle.arrangement.proofs.Checks.{searched, place_le, module_place, setting_place, modules_marked}
use Rattle.arrangement.proofs.check.judge_slots.Goals.{After-refuse_at, After-refuse_at-2}
use Rattle.arrangement.proofs.check.judge_slots.Goals as goal

pub refuse_at-requires : goal.refuse_at-requires
refuse_at-requires c = omega (arith, c.requires.0, place_le _ c.requires.2 c.first_outside.ensures)

-- what the check by 5 answers, and then that by 6
five : (c : After-refuse_at) →
    c.refuse_at.result ≡ refused_at_lem Module (lowest (bad_module c.args.n (at c.args.modules.now)) c.args.n)
five c = searched Module _ _ c.requires.2 c.refuse_at.ensures c.first_outside.ensures (module_place _ _)

six : (c : After-refuse_at-2) →
    c.refuse_at-2.result ≡ refused_at_lem Repeat (lowest (repeated (at c.args.modules.now)) c.args.n)
six c = searched Repeat _ _ c.requires.2 c.refuse_at-2.ensures c.first_repeat.ensures refl

pub returns-in_err-refuse_at : goal.returns-in_err-refuse_at
unfolding slots_verdict
returns-in_err-refuse_at c = stops _ c.from_residual.ensures.1 (sym c.in_err-refuse_at.was ∙ five (goal.at.returns-in_err-refuse_at c).After-refuse_at)

pub first_repeat-requires : goal.first_repeat-requires
first_repeat-requires c =
    modules_marked _ _ c.requires.0 c.requires.2 (sym c.in_ok-refuse_at.was ∙ five (goal.at.first_repeat-requires c).After-refuse_at)

pub refuse_at-requires-2 : goal.refuse_at-requires-2
refuse_at-requires-2 c = omega (arith, c.requires.0, place_le _ c.requires.2 c.first_repeat.ensures)

pub returns-in_err-refuse_at-2 : goal.returns-in_err-refuse_at-2
unfolding slots_verdict
returns-in_err-refuse_at-2 c =
    goes_on (sym c.in_ok-refuse_at.was ∙ five (goal.at.returns-in_err-refuse_at-2 c).After-refuse_at)
    (stops _ c.from_residual-in_err-refuse_at-2.ensures.1 (sym c.in_err-refuse_at-2.was ∙ six (goal.at.returns-in_err-refuse_at-2 c).After-refuse_at-2))

pub refuse_at-requires-3 : goal.refuse_at-requires-3
refuse_at-requires-3 c = omega (arith, c.requires.0, place_le _ c.requires.3 c.first_outside-2.ensures)

pub returns : goal.returns
unfolding slots_verdict
returns c =
    goes_on (sym c.in_ok-refuse_at.was ∙ five (goal.at.returns c).After-refuse_at)
    (goes_on (sym c.in_ok-refuse_at-2.was ∙ six (goal.at.returns c).After-refuse_at-2)
    (searched Setting _ _ c.requires.3 c.refuse_at-3.ensures c.first_outside-2.ensures (setting_place _ _ _ c.requires.1)))
