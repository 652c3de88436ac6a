-- `flip::flip_lent` meets its contract: where the verdict refuses nothing is written, and else the flip is made, whose `row` of as
-- many slots as the buffer has is the row of n slots. Assumes nothing.
use mathlib.Core.Path.{refl, sym, ◌∙◌, ap}
use Rattle.rows.specs.Row.{row}
use Rattle.sizes.proofs.Outcomes.{refused_does, done_does}
use Rattle.flip.specs.Flip.{flip_leaves}
use Rattle.flip.proofs.Flips.{flippable, flip_lengths}
use Rattle.flip.proofs.flip_lent.Goals as goal

pub returns-in_err-judge : goal.returns-in_err-judge
unfolding flip_leaves
returns-in_err-judge c = refused_does tt _ _ _ _ c.from_residual.ensures.1 c.in_err-judge.ensures refl refl

pub returns : goal.returns
unfolding flip_leaves
returns c =
    let lengths = flip_lengths _ _ _ _ _ (sym c.in_ok-judge.ensures) in
    done_does _ _ _ _ c.in_ok-judge.ensures refl (c.flip.ensures.modules_after ∙ ap (row _) lengths.0) (c.flip.ensures.settings_after ∙ ap (row _) lengths.1)

pub flip-requires : goal.flip-requires
flip-requires c = flippable _ _ _ _ _ (sym c.in_ok-judge.ensures)
