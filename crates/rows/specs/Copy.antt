-- Rows by value, as the code copies lent rows into.
use Rattle.std.specs.Prelude.{ℕ, List, replicate}

-- the places of a row by value, which are at least 20
abbrev pub wide : ℕ
wide = 32

-- a row by value with nothing in it
abbrev pub blank : List ℕ
blank = replicate wide 0
