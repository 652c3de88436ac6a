-- What is answered of any input: the length of the book that the writer wrote, or the refusal, for which it left the buffer as it was;
-- and so what is to be printed is that book, or that refusal.
-- Assumes nothing.
use Rattle.std.proofs.Common.{Ok, Err, Result}
use Rattle.std.specs.Result.{IsErrAnd, result_unwrap_or}
use Prim.Native.Nat.{ℕ, ◌≤◌}
use native.Mathlib.Nat.{le_refl}
use mathlib.Core.Path.{◌≡◌, refl, sym, ◌∙◌}
use mathlib.Core.List.{List, [], ◌++◌}
use native.Mathlib.Omega.{arith}
use lib.ListN.{length, take, drop, length-append}
use lib.Seq.{take-append-le, take-length}
use Rattle.sizes.specs.declared.Refusal.{Refusal}
use Rattle.sizes.specs.Refusal.{Verdict, fine}
use Rattle.sizes.specs.Outcome.{answered, left}
use Rattle.sizes.proofs.Refusals.{left_with}
use Rattle.writer.specs.Write.{lists, write_tells, write_leaves}
use Rattle.book_write.specs.Lines.{listed, Takes, taken_verdict, taken_book, Answers, Shows}

-- of lines that were taken into the lists
module _ (xs ns ks ranks counts : List ℕ) where
  pub answers_bad : {before : List ℕ} {w : Result ℕ Refusal} (r : Refusal) → IsErrAnd w (λ e. e ≡ r) → Takes xs ns ks ranks counts (Err r) → Answers xs before w before
  unfolding answered left taken_verdict taken_book
  answers_bad r refusal takes = record {
    l = lists ns ks ranks counts;
    taken = Err r;
    takes = takes;
    answer_is = left_with refusal;
    after_is = refl;
  }

  pub answers_stretches : {before after : List ℕ} {w : Result ℕ Refusal} (m : ℕ) → Takes xs ns ks ranks counts (Ok m) →
      w ≡ write_tells (listed m ns ks ranks counts) before → after ≡ write_leaves (listed m ns ks ranks counts) before → Answers xs before w after
  unfolding write_tells write_leaves taken_verdict taken_book
  answers_stretches m takes value book_after = record {
    l = lists ns ks ranks counts;
    taken = Ok m;
    takes = takes;
    answer_is = value;
    after_is = book_after;
  }

-- the length that is answered, or 0, is that of bytes which stand in the buffer
book_inside : (v : Verdict) (book before : List ℕ) → result_unwrap_or (answered v (length book)) 0 ≤ length (left v before (book ++ drop (length book) before))
unfolding answered left
book_inside (Ok done) book before = omega (arith, length-append book (drop (length book) before))
book_inside (Err refusal) book before = omega arith

pub answer_inside : {xs before after : List ℕ} {r : Result ℕ Refusal} {m : ℕ} → Answers xs before r after → m ≡ result_unwrap_or r 0 → m ≤ length after
answer_inside {before = before} so m_is =
    rw (m_is, so.answer_is, so.after_is) (book_inside (taken_verdict so.taken so.l before) (taken_book so.taken so.l) before)

-- ---- to be printed

-- the bytes of a book that was written stand first in the buffer, as many as was answered
book_first : (v : Verdict) (book before : List ℕ) {after : List ℕ} {m : ℕ} → Ok m ≡ answered v (length book) →
    after ≡ left v before (book ++ drop (length book) before) → (v ≡ fine) × (take m after ≡ book)
unfolding answered left
book_first (Ok done) book before {after} {m} answer_is after_is =
    let long : m ≡ length book = cc in
    (refl, rw (long, after_is) (take-append-le (length book) book (drop (length book) before) (le_refl _) ∙ take-length book))
book_first (Err refusal) book before answer_is after_is = absurd (let z : ◌≡◌ {A = ℕ} 0 1 = cc in omega arith)

-- what was answered is the verdict's refusal
refusal_is : (v : Verdict) (x : ℕ) {r : Refusal} → Err r ≡ answered v x → v ≡ Err r
unfolding answered
refusal_is (Ok done) x answer_is = cc
refusal_is (Err refusal) x {r} answer_is = let same : refusal ≡ r = cc in rw same

-- so those bytes are what is to be printed; or the refusal is, with no byte
module _ {xs before after : List ℕ} where
  pub shows_written : {m : ℕ} {text : List ℕ} → Answers xs before (Ok m) after → text ≡ take m after → Shows xs before fine text
  unfolding left
  shows_written so text_is =
      let first = book_first (taken_verdict so.taken so.l before) (taken_book so.taken so.l) before so.answer_is so.after_is in record {
        l = so.l;
        taken = so.taken;
        takes = so.takes;
        verdict_is = sym first.0;
        text_is = text_is ∙ first.1;
      }

  pub shows_refused : {r : Refusal} → Answers xs before (Err r) after → Shows xs before (Err r) []
  unfolding left
  shows_refused so = record {
    l = so.l;
    taken = so.taken;
    takes = so.takes;
    verdict_is = sym (refusal_is (taken_verdict so.taken so.l before) _ so.answer_is);
    text_is = refl;
  }
