-- `limpet_board_step` keeps its promise: where the verdict refuses nothing is written, and else the step is made. Assumes nothing.
use mathlib.Core.Path.{refl, sym}
use native.Mathlib.Omega.{arith}
use Rattle.step.specs.Asked.{StepAsked}
use Rattle.step.specs.Step.{step_leaves}
use Rattle.step.proofs.Verdicts.{step_asked, step_flip_high, step_number_is, step_number_high}
use Rattle.limpet.proofs.Answers.{refused_leaves, done_leaves}
use Rattle.limpet.proofs.of_boards.limpet_board_step.Goals.{In-Ok}
use Rattle.limpet.proofs.of_boards.limpet_board_step.Goals as goal

pub returns-in-Err : goal.returns-in-Err
unfolding step_leaves
returns-in-Err c = refused_leaves _ _ _ _ _ c.in-Err.ensures c.pack_refusal.ensures refl refl

pub returns-in-Ok : goal.returns-in-Ok
unfolding step_leaves
returns-in-Ok c =
    let stepped = c.step-stepped.ensures in
    done_leaves _ _ _ _ c.in-Ok.ensures (step_number_is _ _ _ c.number_of.ensures stepped.flip_value stepped.closed_value) c.pack_value.ensures stepped.counters_after stepped.pointers_after

-- what was asked of the step
asked : (c : In-Ok) →
    let a = c.args in StepAsked a.n a.k a.counters.now a.pointers.now
asked c = step_asked _ _ _ _ (sym c.in-Ok.ensures)

pub step-stepped-requires : goal.step-stepped-requires
step-stepped-requires c = asked (goal.at.step-stepped-requires c).In-Ok

pub number_of-requires : goal.number_of-requires
number_of-requires c =
    let was = asked (goal.at.number_of-requires c).In-Ok in omega (arith, c.step-stepped.ensures.flip_value, step_flip_high was, was.lent.sizes.n_high)

pub pack_value-requires : goal.pack_value-requires
pack_value-requires c =
    let was = asked (goal.at.pack_value-requires c).In-Ok in
    omega (arith, step_number_is _ _ _ c.number_of.ensures c.step-stepped.ensures.flip_value c.step-stepped.ensures.closed_value, step_number_high was)
