-- `book::check::judge_body` meets its contract: the verdict depends on the first n places of the rows alone, where the arrangement was
-- written. Assumes nothing.
use mathlib.Core.Path.{refl, ◌∙◌}
use Rattle.arrangement.proofs.Validity.{slots_ext}
use Rattle.book.proofs.Checks.{written_at}
use Rattle.book.proofs.check.judge_body.Goals as goal

pub returns : goal.returns
returns c =
    c.judge_slots.ensures ∙ slots_ext _ _ _ _ _ _ (written_at _ _ refl c.take_body.ensures.modules_after) (written_at _ _ refl c.take_body.ensures.settings_after)
