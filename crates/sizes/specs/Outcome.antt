-- 01, "Numbers of refusal": what a call that writes leaves. A refusal answers 0 in every other number of the answer and changes no
-- buffer. The outcome is that of a call with two buffers lent to write in.
use Rattle.std.specs.Prelude.{ℕ, ◌≡◌, List, Result, Ok, Err}
use Rattle.sizes.specs.declared.Refusal.{Refusal}
use Rattle.sizes.specs.Refusal.{Verdict}

-- an answer: what was asked for, or the refusal
unfoldable pub answered : {A : Type 0} → Verdict → A → Result A Refusal
answered (Ok done) x = Ok x
answered (Err refusal) x = Err refusal

-- a lent buffer at the end of a call: as it was where the call was refused
unfoldable pub left : Verdict → List ℕ → List ℕ → List ℕ
left (Ok done) was written = written
left (Err refusal) was written = was

-- what a call leaves: its answer, the first buffer and the second
pub record Outcome (A : Type 0) : Type 0 where
  pub answer : Result A Refusal
  pub one : List ℕ
  pub two : List ℕ

-- the outcome of a call with a verdict, from what it answers where it is done, the buffers as they were and as they are written
unfoldable pub outcome : {A : Type 0} → Verdict → A → List ℕ → List ℕ → List ℕ → List ℕ → Outcome A
outcome v x one two one_written two_written =
    record { answer = answered v x; one = left v one one_written; two = left v two two_written }

-- the promise of such a call: it answers r, and the buffers hold a and b at its end
pub record Does {A : Type 0} (o : Outcome A) (r : Result A Refusal) (a b : List ℕ) : Type 0 where
  pub answer_is : r ≡ o.answer
  pub one_is : a ≡ o.one
  pub two_is : b ≡ o.two
