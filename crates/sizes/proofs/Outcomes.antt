-- The laws of calls that write. A verdict refuses or is fine, and what a call leaves goes by that alone: so the proof of a call has
-- one of these laws where it was refused and one where it was done. Assumes nothing.
use Rattle.std.proofs.Common.{Err, Ok, Result}
use Rattle.std.specs.Result.{IsErrAnd}
use mathlib.Core.Path.{◌≡◌, refl, sym, ◌∙◌}
use mathlib.Core.List.{List}
use Prim.Native.Nat.{ℕ}
use lib.ListN.{length}
use Rattle.sizes.specs.declared.Refusal.{Refusal}
use Rattle.sizes.specs.Refusal.{Verdict, fine}
use Rattle.sizes.specs.Outcome.{answered, left, Outcome, outcome, Does}
use Rattle.sizes.proofs.Refusals.{left_with}

-- ---- one outcome

pub one_done : {A : Type 0} {o : Outcome A} {r s : Result A Refusal} {a b c d : List ℕ} →
    Does o r a b → Does o s c d → (r ≡ s) × (a ≡ c) × (b ≡ d)
one_done p q = (p.answer_is ∙ sym q.answer_is, p.one_is ∙ sym q.one_is, p.two_is ∙ sym q.two_is)

-- ---- the calls

-- a call that left by `?` with the refusal r of its check
pub refused_does : {A : Type 0} {check : Verdict} {w : Result A Refusal} {r : Refusal} {a b : List ℕ} (x : A) (one two one_written two_written : List ℕ) →
    IsErrAnd w (λ e. e ≡ r) → Err r ≡ check → a ≡ one → b ≡ two → Does (outcome check x one two one_written two_written) w a b
unfolding outcome answered left
refused_does x one two one_written two_written refused e a_is b_is =
    record { answer_is = left_with refused ∙ rw (← e); one_is = a_is ∙ rw (← e); two_is = b_is ∙ rw (← e) }

-- a call that was done
pub done_does : {A : Type 0} {check : Verdict} {x y : A} {a b : List ℕ} (one two one_written two_written : List ℕ) →
    fine ≡ check → y ≡ x → a ≡ one_written → b ≡ two_written → Does (outcome check x one two one_written two_written) (Ok y) a b
unfolding outcome answered left
done_does one two one_written two_written e y_is a_is b_is =
    record { answer_is = rw (← e, y_is); one_is = a_is ∙ rw (← e); two_is = b_is ∙ rw (← e) }

-- ---- what is left

-- a buffer keeps its length
pub left_long : (v : Verdict) (was written : List ℕ) → (v ≡ fine → length written ≡ length was) → length (left v was written) ≡ length was
unfolding left
left_long (Ok done) was written same = same refl
left_long (Err refusal) was written same = refl
