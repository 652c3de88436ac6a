-- `writer::check::judge_words` meets its contract: a length is so many eights where it has so many and nothing is left over. Assumes
-- nothing.
use mathlib.Core.Path.{◌≡◌, sym, ◌∙◌, ap}
use mathlib.Core.Bool.{not}
use Prim.Native.Nat.{◌*◌}
use lib.Dec.{eqb}
use lib.ListN.{length}
use Rattle.sizes.specs.declared.Fault.TheVariants.{Length}
use Rattle.sizes.specs.Refusal.{refused_if}
use Rattle.arrangement.specs.Check.{length_verdict}
use Rattle.arrangement.proofs.Checks.{wrong_length}
use Rattle.writer.proofs.Checks.{words_other, words_left}
use Rattle.writer.proofs.check.judge_words.Goals.{then-words-stretches, else-words-stretches, After-refuse_if}
use Rattle.writer.proofs.check.judge_words.Goals as goal

-- the fault is that of the definition
is : (c : After-refuse_if) → c.if-words-stretches.refuse_if ≡ not (eqb (length c.args.list.now) (8 * c.args.stretches))
is c =
    elim c.if-words-stretches.branch [
      | then-words-stretches w ↦
          let ne = w.if-words-stretches.true in
          w.refuse_if-is ∙ wrong_length _ _ ne ∙ sym (wrong_length _ _ (words_other _ _ ne))
      | else-words-stretches w ↦ w.refuse_if-is ∙ words_left _ _ w.if-words-stretches.false
    ]

pub returns : goal.returns
unfolding length_verdict
returns c = c.refuse_if.ensures ∙ ap (refused_if Length) (is (goal.at.returns c).After-refuse_if)
