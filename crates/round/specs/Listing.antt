-- The published order, Rec_k(1^0 2^0 .. n^0): 001, section 3.2, and 000, section 3.2, equation 4, with the words of their
-- sections 2. A pre-perm p = p_1 p_2 .. p_j is a row of symbols; r_i, ρ(p)_i and the like are counted from 1, as there.
use Rattle.std.specs.Prelude.{ℕ, zero, suc, ◌+◌, ◌-◌, ◌*◌, List, [], ◌∷◌, ◌++◌, map, take, drop, get_or}
use Rattle.arrangement.specs.Arrangement.{home_modules, home_settings}
use Rattle.order.specs.Rank.{raised_by}

-- ---- lists of anything

-- f 0, f 1, .., f (n - 1)
unfoldable pub list_of : {A : Type 0} → (ℕ → A) → ℕ → List A
list_of f zero = []
list_of f (suc n) = list_of f n ++ (f n ∷ [])

-- f (n - 1) · .. · f 1 · f 0, one behind the other
unfoldable pub joined_down : {A : Type 0} → (ℕ → List A) → ℕ → List A
joined_down f zero = []
joined_down f (suc n) = f n ++ joined_down f n

-- ---- symbols

-- v^c, the value v and its colour c: module v at setting c
abbrev pub Symbol : Type 0
Symbol = ℕ × ℕ

-- an arrangement of n slots as a row of symbols
unfoldable pub symbols : ℕ → (ℕ → ℕ) → (ℕ → ℕ) → List Symbol
symbols n M S = list_of (λ i. (M i, S i)) n

-- 1^0 2^0 .. n^0
unfoldable pub home : ℕ → List Symbol
home n = symbols n home_modules home_settings

-- p_i, symbol i of p
unfoldable pub symbol_at : List Symbol → ℕ → Symbol
symbol_at p i = get_or p (i - 1) (0, 0)

-- p_i^{+s}: its colour raised by s modulo k
unfoldable pub raised_symbol : ℕ → ℕ → Symbol → Symbol
raised_symbol k s x = (x.0, raised_by k x.1 s)

-- p^{+s}: every symbol of p so
unfoldable pub raised_row : ℕ → ℕ → List Symbol → List Symbol
raised_row k s p = map (raised_symbol k s) p

-- ---- the circular word

-- ρ(p) = p^{+(k-1)} · p^{+(k-2)} · .. · p^{+0} = r_1 r_2 .. r_m, which has m = k × j symbols where p has j
unfoldable pub circular_word : ℕ → List Symbol → List Symbol
circular_word k p = joined_down (λ s. raised_row k s p) k

-- ρ(p)_i of a pre-perm of j symbols: the j - 1 symbols that end with r_(i-1). The word is written twice, since it goes round:
-- r_(i-1) of the second copy has m + i - 2 symbols before it, and so the first of the j - 1 has m + i - j
unfoldable pub subword : ℕ → ℕ → List Symbol → ℕ → List Symbol
subword j k p i = take (j - 1) (drop (k * j + i - j) (circular_word k p ++ circular_word k p))

-- ---- the listing

-- L · r: the listing L with r appended to every element
unfoldable pub appended : List (List Symbol) → Symbol → List (List Symbol)
appended L r = map (λ q. q ++ (r ∷ [])) L

-- Rec_k(p) of a pre-perm of j symbols. Where j = 1 it is p^{+0}, p^{+1}, .., p^{+(k-1)}; for a larger j it is
-- Rec_k(ρ(p)_m) · r_m, Rec_k(ρ(p)_(m-1)) · r_(m-1), .., Rec_k(ρ(p)_1) · r_1. The papers have no pre-perm of no symbols
unfoldable pub listing : ℕ → ℕ → List Symbol → List (List Symbol)
listing zero k p = []
listing (suc zero) k p = list_of (λ s. raised_row k s p) k
listing (suc (suc h)) k p =
    joined_down (λ i. appended (listing (suc h) k (subword (suc (suc h)) k p (suc i))) (symbol_at (circular_word k p) (suc i)))
    (k * suc (suc h))
