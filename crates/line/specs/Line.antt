-- 01, the listing: its input. What is taken is what printing four numbers gives, and nothing else.
use Rattle.std.specs.Prelude.{ℕ, suc, ◌≤◌, ◌+◌, ◌*◌, ◌-◌, ◌≡◌, Bool, false, cond, List, [], ◌∷◌, ◌++◌, leb, eqb, None, Some}
use Rattle.std.specs.declared.option.Option.{Option}
use Rattle.rows.specs.Search.{outside}
use Rattle.line.specs.Decimal.{most, ended, numbers_line}
use Rattle.line.specs.declared.Numbers.{Numbers}

-- the input xs is the line of four numbers, each at most 2 ^ 64 - 1
pub record Says (xs : List ℕ) (n k r t : ℕ) : Type 0 where
  pub n_high : n ≤ most
  pub k_high : k ≤ most
  pub r_high : r ≤ most
  pub t_high : t ≤ most
  pub bytes : xs ≡ numbers_line n k r t

-- what the reading of any input answers: the four numbers whose line it is, or that it is the line of no four numbers
unfoldable pub Reads : List ℕ → Option Numbers → Type 0
Reads xs (Some v) = Says xs v.n v.k v.rank v.count
Reads xs None = (n k r t : ℕ) → Says xs n k r t → ⊥

-- ---- how it is read

-- a number that was read up to v goes on with a byte: that is a digit, v is not 0, and the number stays at most 2 ^ 64 - 1
unfoldable pub goes_on_lem : ℕ → ℕ → Bool
goes_on_lem v byte = cond (outside 48 57 byte) false (cond (eqb v 0) false (leb (v * 10 + (byte - 48)) most))

-- the bytes begin with the number v and the byte `end`, behind which is `rest`
pub record NumberAt (xs : List ℕ) (end v : ℕ) (rest : List ℕ) : Type 0 where
  pub high : v ≤ most
  pub bytes : xs ≡ ended v end ++ rest

-- the bytes begin with no number that ends so
abbrev pub NoNumber : List ℕ → ℕ → Type 0
NoNumber xs end = (v : ℕ) (ys : List ℕ) → v ≤ most → xs ≡ ended v end ++ ys → ⊥

-- ---- where lines end

-- how many bytes the first line of some bytes has: up to its newline and with it, or all where there is none
unfoldable pub line_long : List ℕ → ℕ
line_long [] = 0
line_long (byte ∷ bytes) = cond (eqb byte 10) 1 (suc (line_long bytes))
