-- What a stream holds after a text was written to it.
use Rattle.std.specs.Prelude.{ℕ, ◌≡◌, ◌≤◌, Bool, true, List, length, take}
use Rattle.std.specs.Io.KnownBytes.{Appends}
use Rattle.std.specs.declared.option.Option.{Option}

-- the known bytes grew by the whole of the text, or where that was not written, by its first bytes, if by any
pub record Writes (before after : Option (List ℕ)) (text : List ℕ) (whole : Bool) : Type 0 where
  pub count : ℕ
  pub inside : count ≤ length text
  pub bytes : Appends before after (take count text)
  pub all : whole ≡ true → count ≡ length text
