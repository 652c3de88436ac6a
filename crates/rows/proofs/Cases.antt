-- Proofs by cases on the order of two numbers, and what `if_lt` and `outside` come to in each case. Two numbers can be
-- compared, so a statement holds where it holds for each outcome. Assumes nothing.
use mathlib.Core.Path.{◌≡◌, refl, sym, ◌∙◌, subst}
use mathlib.Core.Bool.{Bool, true, false, cond}
use mathlib.Core.Logic.{◌≢◌}
use Prim.Native.Nat.{ℕ, suc, ◌≤◌, ◌<◌}
use native.Mathlib.Nat.{le_antisymm, lt_of_not-le, le_of_suc-le-suc}
use native.Mathlib.Decide.{dec_le, ℕ_discrete}
use native.Mathlib.Omega.{arith}
use lib.Dec.{ltb}
use borrow.Author.Tests.{lt-ltb, le-ltb, ltb-false}
use Rattle.rows.specs.Search.{if_lt, outside}

-- one of two numbers is the smaller, or they are the same
pub by_lt : {P : Type 0} (a b : ℕ) → (a < b → P) → (b ≤ a → P) → P
by_lt {P} a b f g = go (dec_le b a)
  where
    go : Dec (b ≤ a) → P
    go (yes h) = g h
    go (no h) = f (lt_of_not-le h)

pub by_eq : {P : Type 0} (a b : ℕ) → (a ≡ b → P) → (a ≢ b → P) → P
by_eq {P} a b f g = go (ℕ_discrete a b)
  where
    go : Dec (a ≡ b) → P
    go (yes e) = f e
    go (no e) = g e

pub by_ne : {P : Type 0} {a b : ℕ} → a ≢ b → (a < b → P) → (b < a → P) → P
by_ne {P} {a} {b} h f g = by_lt a b f (λ l. g (omega arith))

-- a slot of suc m is one of the first m or the last
pub by_last : (P : ℕ → Type 0) {m i : ℕ} → i < suc m → (i < m → P i) → P m → P i
by_last P {m} {i} h f g = by_lt i m f (λ l. subst P (le_antisymm l (le_of_suc-le-suc h)) g)

-- a test is true or false
pub by_test : {P : Type 0} (b : Bool) → (b ≡ true → P) → (b ≡ false → P) → P
by_test true f g = f refl
by_test false f g = g refl

-- and not both
pub opposite : {b : Bool} → b ≡ true → b ≡ false → ⊥
opposite t f = let z : ◌≡◌ {A = Bool} true false = sym t ∙ f in let y : ◌≡◌ {A = ℕ} 0 1 = cc in omega arith

pub if_lt_lem : {a b : ℕ} (x y : ℕ) → a < b → if_lt a b x y ≡ x
unfolding if_lt
if_lt_lem {a} {b} x y h = rw (lt-ltb a b h)

pub if_ge : {a b : ℕ} (x y : ℕ) → b ≤ a → if_lt a b x y ≡ y
unfolding if_lt
if_ge {a} {b} x y h = rw (le-ltb a b h)

-- either way it is at most what both are
pub if_le : (a b : ℕ) {x y z : ℕ} → x ≤ z → y ≤ z → if_lt a b x y ≤ z
if_le a b {x} {y} hx hy = by_lt a b (λ l. omega (arith, if_lt_lem x y l)) (λ l. omega (arith, if_ge {a = a} {b = b} x y l))

-- ---- a range

pub below_range : (lo hi x : ℕ) → x < lo → outside lo hi x ≡ true
unfolding outside
below_range lo hi x h = rw (lt-ltb x lo h)

pub above_range : (lo hi x : ℕ) → lo ≤ x → hi < x → outside lo hi x ≡ true
unfolding outside
above_range lo hi x l h = rw (le-ltb x lo l, lt-ltb hi x h)

pub in_range : (lo hi x : ℕ) → lo ≤ x → x ≤ hi → outside lo hi x ≡ false
unfolding outside
in_range lo hi x l h = rw (le-ltb x lo l, le-ltb hi x h)

either : (a b : Bool) → cond a true b ≡ false → (a ≡ false) × (b ≡ false)
either true b e = (e, cc)
either false b e = (refl, e)

pub inside : (lo hi x : ℕ) → outside lo hi x ≡ false → (lo ≤ x) × (x ≤ hi)
unfolding outside
inside lo hi x e =
    let w = either (ltb x lo) (ltb hi x) e in (ltb-false x lo w.0, ltb-false hi x w.1)
