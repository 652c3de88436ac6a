-- What is written into a buffer by its parts, one behind the other.
use Rattle.std.specs.Prelude.{ℕ, ◌+◌, ◌≡◌, List, length}
use Rattle.std.proofs.Math.Seq.{paste}

-- ys is the buffer xs with a text written over it from place `from` on, and nothing else changed; the text ends before place r
pub record Put (xs : List ℕ) (from : ℕ) (text : List ℕ) (r : ℕ) (ys : List ℕ) : Type 0 where
  pub ends : r ≡ from + length text
  pub holds : ys ≡ paste xs from text (length text)
