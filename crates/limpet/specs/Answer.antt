-- What a call from C leaves: the one number that it returns, and the contents of the buffers lent to it. 01: a refusal answers
-- its number and place, 0 in every other number of the answer, and changes no buffer.
use Rattle.std.specs.Prelude.{ℕ, ◌+◌, ◌*◌, ◌/◌, ◌%◌, ◌≡◌, List, Result, Ok, Err}
use Rattle.sizes.specs.declared.Refusal.{Refusal}
use Rattle.sizes.specs.Refusal.{fault_number}
use Rattle.sizes.specs.Outcome.{Outcome}

-- ---- the number

-- the number of the refusal, 0 where the call was done; its place; and the values of a call that was done, as one number
pub record Answer : Type 0 where
  pub number : ℕ
  pub place : ℕ
  pub value : ℕ

-- of what a floor below answered, where `value` tells the number of what was asked for
unfoldable pub answer_of : {A : Type 0} → (A → ℕ) → Result A Refusal → Answer
answer_of value (Ok x) = record { number = 0; place = 0; value = value x }
answer_of value (Err refusal) = record { number = fault_number refusal.fault; place = refusal.place; value = 0 }

-- a verdict has no value, and a number is its own
abbrev pub no_value : Unit {0} → ℕ
no_value done = 0

abbrev pub own_value : ℕ → ℕ
own_value x = x

-- packed: the number in bits 0 to 7, the place in bits 8 to 15, the value from bit 16 on
unfoldable pub packed : Answer → ℕ
packed a = a.number + 256 * a.place + 65536 * a.value

-- and taken apart, as the macros of limpet.h do
unfoldable pub unpacked : ℕ → Answer
unpacked x = record { number = x % 256; place = x / 256 % 256; value = x / 65536 }

-- ---- the promises

-- of a call that writes nothing: it returns the number x
pub record Returns (x r : ℕ) : Type 0 where
  pub returned_is : r ≡ x

-- of a call that writes one buffer, of which a floor below says what it tells, t, and leaves, w: it returns t packed
pub record Writes (t : Result ℕ Refusal) (w : List ℕ) (r : ℕ) (buffer : List ℕ) : Type 0 where
  pub returned_is : r ≡ packed (answer_of own_value t)
  pub buffer_is : buffer ≡ w

-- of a call that writes two buffers, of which a floor below says the outcome o: it returns its answer, packed
pub record Leaves {A : Type 0} (value : A → ℕ) (o : Outcome A) (r : ℕ) (one two : List ℕ) : Type 0 where
  pub returned_is : r ≡ packed (answer_of value o.answer)
  pub one_is : one ≡ o.one
  pub two_is : two ≡ o.two
