-- Choices by a comparison of two numbers, and the lowest slot at which a test holds.
use Rattle.std.specs.Prelude.{ℕ, zero, suc, Bool, true, cond, ltb}

-- x where a is below b, and else y
unfoldable pub if_lt : ℕ → ℕ → ℕ → ℕ → ℕ
if_lt a b x y = cond (ltb a b) x y

-- a number below lo or above hi
unfoldable pub outside : ℕ → ℕ → ℕ → Bool
outside lo hi x = cond (ltb x lo) true (ltb hi x)

-- a where it is not 0, and else b
unfoldable pub or_else : ℕ → ℕ → ℕ
or_else zero b = b
or_else (suc a) b = suc a

-- the lowest of the first n slots at which a test holds, counted from 1; 0 where it holds at none of them
unfoldable pub lowest : (ℕ → Bool) → ℕ → ℕ
lowest test zero = 0
lowest test (suc n) = or_else (lowest test n) (cond (test n) (suc n) 0)
