-- A row is a list seen by its slots, which are counted from 0 here. A lent buffer is such a list; what stands in it is said
-- by a function of the slot. `row` and `at` are the one bridge between the two.
use Rattle.std.specs.Prelude.{ℕ, zero, suc, List, [], ◌∷◌, ◌++◌, get_or, drop}

-- what stands at slot i of xs, and 0 behind its end
abbrev pub at : List ℕ → ℕ → ℕ
at xs i = get_or xs i 0

-- the list f 0, f 1, .. , f (n - 1)
unfoldable pub row : (ℕ → ℕ) → ℕ → List ℕ
row f zero = []
row f (suc n) = row f n ++ (f n ∷ [])

-- xs with its first n slots from f, and the rest as they were
unfoldable pub front : (ℕ → ℕ) → ℕ → List ℕ → List ℕ
front f n xs = row f n ++ drop n xs
