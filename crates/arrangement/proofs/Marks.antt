-- The laws of the pass that marks the modules it has met. A module is marked exactly where it stands in a slot that was passed,
-- so what is counted is each slot whose module already stands in a lower one. Assumes nothing.
use mathlib.Core.Path.{◌≡◌, refl, sym, ◌∙◌}
use mathlib.Core.Bool.{cond}
use Prim.Native.Nat.{ℕ, ◌+◌, ◌<◌, ◌≤◌}
use native.Mathlib.Omega.{arith}
use lib.Dec.{eqb, ltb}
use lib.ListN.{set, get_or-replicate}
use lib.Seq.{ext_get_or}
use borrow.Author.Tests.{eq-eqb, ne_eqb, lt-ltb}
use Rattle.rows.specs.Row.{row}
use Rattle.rows.specs.Search.{lowest}
use Rattle.rows.proofs.Cases.{by_test}
use Rattle.rows.proofs.Rows.{length_row, at_row, set_row}
use Rattle.rows.proofs.Searches.{none_yet, holds_next, same_next}
use Rattle.arrangement.specs.Check.{repeated}
use Rattle.rows.specs.Copy.{wide, blank}

-- 1 where module v stands in one of the first i slots, and else 0
pub mark : (ℕ → ℕ) → ℕ → ℕ → ℕ
mark M i v = cond (ltb 0 (lowest (λ h. eqb (M h) v) i)) 1 0

module _ (M : ℕ → ℕ) where
  -- before the first slot nothing is marked
  pub unmarked : blank ≡ row (mark M 0) wide
  unfolding mark
  unmarked =
      ext_get_or 0 blank (row (mark M 0) wide) (sym (length_row (mark M 0) wide))
      (λ i h. get_or-replicate {A = ℕ} wide i 0 0 h ∙ sym (at_row (mark M 0) wide i h ∙ rw (none_yet (λ h. eqb (M h) i))))

  -- the module of slot i is marked, and the marks of the others stay
  pub marked : (i : ℕ) → M i < wide → set (row (mark M i) wide) (M i) 1 ≡ row (mark M (i + 1)) wide
  unfolding mark
  marked i h =
      set_row (mark M i) (mark M (i + 1)) wide (M i) 1 h
      (sym (rw (lt-ltb 0 (lowest (λ g. eqb (M g) (M i)) (i + 1)) (holds_next _ i (eq-eqb (M i) (M i) refl)))))
      (λ v l ne. sym (rw (same_next (λ g. eqb (M g) v) i (ne_eqb (M i) v (λ e. ne (sym e))))))

  -- what the mark of a slot's own module says
  mark_is : (i : ℕ) → mark M i (M i) ≡ cond (repeated M i) 1 0
  unfolding mark repeated
  mark_is i = refl

  -- the slots met so far whose module stood lower: none exactly where no slot is repeated
  pub record Tally (i twice : ℕ) : Type 0 where
    pub few : twice ≤ i
    pub none : twice ≡ 0 → lowest (repeated M) i ≡ 0
    pub no_more : lowest (repeated M) i ≡ 0 → twice ≡ 0

  pub tally_begun : Tally 0 0
  tally_begun = record { few = omega arith; none = λ z. none_yet (repeated M); no_more = λ z. refl }

  pub tally_on : (i twice : ℕ) → Tally i twice → Tally (i + 1) (twice + mark M i (M i))
  tally_on i twice t =
      by_test (repeated M i)
      (λ again. let one : mark M i (M i) ≡ 1 = mark_is i ∙ rw again in
      let some = holds_next (repeated M) i again in
      record { few = omega (arith, t.few); none = λ z. absurd (omega arith); no_more = λ z. absurd (omega arith) })
      (λ first. let none_is : mark M i (M i) ≡ 0 = mark_is i ∙ rw first in
      let same = same_next (repeated M) i first in
      record {
        few = omega (arith, t.few);
        none = λ z. same ∙ t.none (omega arith);
        no_more = λ z. omega (arith, t.no_more (sym same ∙ z));
      })
