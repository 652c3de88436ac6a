-- The laws of answers. A promise is made of equations, or shows the one reading that there is, so two outcomes that keep it are
-- equal; the number and the place of a verdict are below 256, so the three parts of the one number stand in bits of their own.
-- Assumes nothing.
use Rattle.std.proofs.Common.{Result, Ok, Err}
use Rattle.std.specs.Result.{IfOk, result_unwrap_or}
use Rattle.board.specs.Read.{rank_read}
use Prim.Native.Nat.{ℕ, ◌+◌, ◌*◌, ◌^◌, ◌/◌, ◌%◌, ◌≤◌, ◌<◌}
use mathlib.Core.Path.{◌≡◌, refl, sym, ◌∙◌, ap}
use mathlib.Core.List.{List}
use native.Mathlib.Omega.{arith}
use lib.Arith.{digits_div, digits_mod}
use Rattle.sizes.specs.declared.Refusal.{Refusal}
use Rattle.sizes.specs.Refusal.{Verdict, fine, number_of, place_of}
use Rattle.sizes.specs.Outcome.{answered, left, Outcome, outcome, Does}
use Rattle.sizes.proofs.Refusals.{Small}
use Rattle.board.proofs.Readings.{one_reading}
use Rattle.limpet.specs.Calls.{ReadReturns}
use Rattle.limpet.specs.Answer.{Answer, answer_of, no_value, own_value, packed, unpacked, Returns, Leaves, Writes}

-- ---- one outcome

pub one_number : {x r s : ℕ} → Returns x r → Returns x s → r ≡ s
one_number p q = p.returned_is ∙ sym q.returned_is

pub one_outcome : {A : Type 0} {value : A → ℕ} {o : Outcome A} {r s : ℕ} {a b c d : List ℕ} →
    Leaves value o r a b → Leaves value o s c d → (r ≡ s) × (a ≡ c) × (b ≡ d)
one_outcome p q = (
  p.returned_is ∙ sym q.returned_is,
  p.one_is ∙ sym q.one_is,
  p.two_is ∙ sym q.two_is,
)

pub one_writing : {t : Result ℕ Refusal} {w : List ℕ} {r s : ℕ} {a b : List ℕ} → Writes t w r a → Writes t w s b → (r ≡ s) × (a ≡ b)
one_writing p q = (p.returned_is ∙ sym q.returned_is, p.buffer_is ∙ sym q.buffer_is)

pub one_read : {shown : Result ℕ Refusal → ℕ} {n k : ℕ} {cs fs : List ℕ} {r s : ℕ} → ReadReturns shown n k cs fs r → ReadReturns shown n k cs fs s → r ≡ s
one_read {shown} {n} {k} {cs} {fs} p q =
    p.returned_is ∙ ap shown (one_reading n k cs fs p.reading q.reading p.reads q.reads) ∙ sym q.returned_is

-- ---- the packing

-- what was packed is taken apart again, where number and place fit a byte each
pub unpacked_packed : (a : Answer) → a.number < 256 → a.place < 256 → unpacked (packed a) ≡ a
unfolding packed unpacked
unpacked_packed a number_small place_small =
    let x : ℕ = packed a in
    let high : x ≡ (a.value * 256 + a.place) * 256 + a.number = omega arith in
    let whole : x ≡ a.value * 65536 + (256 * a.place + a.number) = omega arith in
    let number_is : x % 256 ≡ a.number = ap (λ y. y % 256) high ∙ digits_mod (a.value * 256 + a.place) number_small in
    let rest_is : x / 256 ≡ a.value * 256 + a.place = ap (λ y. y / 256) high ∙ digits_div (a.value * 256 + a.place) number_small in
    let place_is : x / 256 % 256 ≡ a.place = ap (λ y. y % 256) rest_is ∙ digits_mod a.value place_small in
    let value_is : x / 65536 ≡ a.value = ap (λ y. y / 65536) whole ∙ digits_div a.value (omega arith) in
    λ i. record { number = number_is i; place = place_is i; value = value_is i }

-- and the whole is a number of 64 bits, where the value is one of 48
pub packed_fits : (a : Answer) → a.number < 256 → a.place < 256 → a.value < 2 ^ 48 → packed a < 2 ^ 64
unfolding packed
packed_fits a number_small place_small value_small = omega arith

-- so the host has the answer of every call whose verdict is small
pub told : {A : Type 0} (value : A → ℕ) (v : Verdict) (x : A) → Small v →
    unpacked (packed (answer_of value (answered v x))) ≡ answer_of value (answered v x)
unfolding answer_of answered number_of place_of
told value (Ok done) x small = unpacked_packed (answer_of value (Ok x)) (omega arith) (omega arith)
told {A} value (Err refusal) x small = unpacked_packed (answer_of {A = A} value (Err refusal)) small.number small.place

pub verdict_told : (v : Verdict) → Small v → unpacked (packed (answer_of no_value v)) ≡ answer_of no_value v
unfolding answer_of number_of place_of
verdict_told (Ok done) small = unpacked_packed (answer_of no_value (Ok done)) (omega arith) (omega arith)
verdict_told (Err refusal) small = unpacked_packed (answer_of no_value (Err refusal)) small.number small.place

-- ---- the calls

-- what is shown of a reading's rank
pub rank_shown : (reading : Result ℕ Refusal) → result_unwrap_or reading 0 ≡ rank_read reading
unfolding rank_read
rank_shown (Ok r) = refl
rank_shown (Err refusal) = refl

-- a call that packs the refusal r of its check, whatever value it has where it is done
pub refused_returns : {check : Verdict} {r : Refusal} {x : ℕ} (value : ℕ) → Err r ≡ check → x ≡ packed (answer_of own_value (Err r)) →
    Returns (packed (answer_of own_value (answered check value))) x
unfolding answered
refused_returns value e x_is = rw (← e) (record { returned_is = x_is })

-- and one that packs its value
pub done_returns : {check : Verdict} {x y value : ℕ} → fine ≡ check → y ≡ value → x ≡ packed (answer_of own_value (Ok y)) →
    Returns (packed (answer_of own_value (answered check value))) x
unfolding answered
done_returns e y_is x_is = rw (← e, ← y_is) (record { returned_is = x_is })

-- a call that writes leaves what the floor below left, with its answer packed
pub does_leaves : {A : Type 0} (value : A → ℕ) {o : Outcome A} {told : Result A Refusal} {r : ℕ} {a b : List ℕ} →
    Does o told a b → r ≡ packed (answer_of value told) → Leaves value o r a b
does_leaves value does r_is = record {
  returned_is = r_is ∙ ap (λ t. packed (answer_of value t)) does.answer_is;
  one_is = does.one_is;
  two_is = does.two_is;
}

-- and so does a call that writes one buffer
pub tells_writes : {t told : Result ℕ Refusal} {w buffer : List ℕ} {r : ℕ} → told ≡ t → buffer ≡ w → r ≡ packed (answer_of own_value told) → Writes t w r buffer
tells_writes told_is buffer_is r_is = record { returned_is = r_is ∙ ap (λ t. packed (answer_of own_value t)) told_is; buffer_is = buffer_is }

-- its value fits the bits above the place, where it is at most so much in a call that was done
pub value_fits : {v : Verdict} {x : ℕ} {answer : Result ℕ Refusal} (most : ℕ) → answer ≡ answered v x → (v ≡ fine → x ≤ most) → most < 2 ^ 48 →
    IfOk answer (λ value. value < 2 ^ 48)
unfolding answered
value_fits {v} {x} most is high fits = rw is (go v high)
  where
    go : (v : Verdict) → (v ≡ fine → x ≤ most) → IfOk (answered v x) (λ value. value < 2 ^ 48)
    go (Ok done) high = let low = high refl in omega arith
    go (Err refusal) high = tt

-- the same of a call that judges by itself: where it was refused
pub refused_leaves : {check : Verdict} {r : Refusal} {x : ℕ} {a b : List ℕ} (value : ℕ) (one two one_written two_written : List ℕ) →
    Err r ≡ check → x ≡ packed (answer_of own_value (Err r)) → a ≡ one → b ≡ two → Leaves own_value (outcome check value one two one_written two_written) x a b
unfolding outcome left answered
refused_leaves value one two one_written two_written e x_is a_is b_is = rw (← e) (record { returned_is = x_is; one_is = a_is; two_is = b_is })

-- and where it was done
pub done_leaves : {check : Verdict} {x y value : ℕ} {a b : List ℕ} (one two one_written two_written : List ℕ) →
    fine ≡ check → y ≡ value → x ≡ packed (answer_of own_value (Ok y)) → a ≡ one_written → b ≡ two_written →
    Leaves own_value (outcome check value one two one_written two_written) x a b
unfolding outcome left answered
done_leaves one two one_written two_written e y_is x_is a_is b_is =
    rw (← e, ← y_is) (record { returned_is = x_is; one_is = a_is; two_is = b_is })
