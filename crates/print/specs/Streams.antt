-- What printing leaves on the two streams, standard output and standard error, of which each may hold known bytes, as it was before
-- and after.
use Rattle.std.specs.Prelude.{ℕ, ◌≡◌, Bool, true, false, List, [], ◌∷◌}
use Rattle.std.specs.declared.option.Option.{Option}
use Rattle.streams.specs.Streams.{Writes}

-- the words `not written`, and a newline
unfoldable pub not_written : List ℕ
not_written = 110 ∷ 111 ∷ 116 ∷ 32 ∷ 119 ∷ 114 ∷ 105 ∷ 116 ∷ 116 ∷ 101 ∷ 110 ∷ 10 ∷ []

-- the line of a refusal goes to standard error, and nothing to standard output
pub record PrintsRefusal (line : List ℕ) (output output' errors errors' : Option (List ℕ)) : Type 0 where
  pub kept : output' ≡ output
  pub whole : Bool
  pub told : Writes errors errors' line whole

-- a text goes to standard output, and nothing to standard error, but where not all of the text was written: then `not written`
pub record PrintsText (text : List ℕ) (output output' errors errors' : Option (List ℕ)) : Type 0 where
  pub whole : Bool
  pub told : Writes output output' text whole
  pub kept : whole ≡ true → errors' ≡ errors
  pub failed : whole ≡ false → (said : Bool) × Writes errors errors' not_written said
