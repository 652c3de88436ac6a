-- 01, the listing: its numbers, as bytes of ASCII. A space is 32, and the newline that ends each line 10.
use Rattle.std.specs.Prelude.{ℕ, zero, suc, ◌+◌, ◌-◌, ◌/◌, ◌%◌, ◌^◌, cond, List, [], ◌∷◌, ◌++◌, ltb}

-- the largest number that is read or printed
abbrev pub most : ℕ
most = 2 ^ 64 - 1

-- the digits of x, of which there are at most m, the most significant first, with no leading zero
unfoldable pub digits : ℕ → ℕ → List ℕ
digits zero x = []
digits (suc m) x = cond (ltb x 10) ((48 + x) ∷ []) (digits m (x / 10) ++ ((48 + x % 10) ∷ []))

-- a number in decimal: no number below 2 ^ 64 has more than 20 digits
unfoldable pub decimal : ℕ → List ℕ
decimal x = digits 20 x

-- a number, and the byte that ends it
unfoldable pub ended : ℕ → ℕ → List ℕ
ended x end = decimal x ++ (end ∷ [])

-- four numbers with one space between, and a newline
unfoldable pub numbers_line : ℕ → ℕ → ℕ → ℕ → List ℕ
numbers_line n k r t = ended n 32 ++ ended k 32 ++ ended r 32 ++ ended t 10
