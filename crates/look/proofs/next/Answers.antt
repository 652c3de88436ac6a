-- `look::next` meets its contract: the flip found by looking is made, over all n places of both rows. Assumes nothing.
use mathlib.Core.Path.{◌∙◌, ap}
use Rattle.rows.specs.Row.{row}
use Rattle.look.proofs.Looks.{look_flippable}
use Rattle.look.proofs.next.Goals as goal

pub returns : goal.returns
returns c = record {
  value = c.look-j.ensures;
  modules_after = c.flip.ensures.modules_after ∙ ap (row _) c.requires.lengths.0;
  settings_after = c.flip.ensures.settings_after ∙ ap (row _) c.requires.lengths.1;
}

pub flip-requires : goal.flip-requires
flip-requires c =
    let long = c.requires.lengths in
    look_flippable (record { sizes = c.args.sizes.permitted; modules = long.0; settings = long.1; valid_is = c.requires.valid }) c.look-j.ensures
