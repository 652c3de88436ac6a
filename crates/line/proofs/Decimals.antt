-- The laws of a number in decimal. A number below 10 is one digit, and a larger one is what is before its last digit and that
-- digit; so what holds of these two kinds holds of every number up to 2 ^ 64 - 1. Assumes nothing.
use mathlib.Core.Path.{◌≡◌, sym, ap, ◌∙◌}
use mathlib.Core.List.{[], ◌∷◌, ◌++◌}
use Prim.Native.Nat.{ℕ, zero, suc, ◌+◌, ◌/◌, ◌%◌, ◌^◌, ◌≤◌, ◌<◌}
use native.Mathlib.Omega.{arith}
use lib.ListN.{length, length-append}
use borrow.Author.Tests.{lt-ltb, le-ltb}
use Rattle.rows.proofs.Cases.{by_lt}
use Rattle.line.specs.Decimal.{most, digits, decimal}

one_digit : (m x : ℕ) → x < 10 → digits (suc m) x ≡ (48 + x) ∷ []
unfolding digits
one_digit m x h = rw (lt-ltb x 10 h)

more_digits : (m x : ℕ) → 10 ≤ x → digits (suc m) x ≡ digits m (x / 10) ++ ((48 + x % 10) ∷ [])
unfolding digits
more_digits m x h = rw (le-ltb x 10 h)

-- ten times as much room is one digit more
fewer : (m x : ℕ) → x < 10 ^ suc m → x / 10 < 10 ^ m
fewer m x h = omega arith

-- more room than a number needs changes nothing
same_digits : (m x : ℕ) → x < 10 ^ suc m → digits (suc m) x ≡ digits (suc (suc m)) x
same_digits zero x h = one_digit 0 x (omega arith) ∙ sym (one_digit 1 x (omega arith))
same_digits (suc m) x h =
    by_lt x 10 (λ l. one_digit (suc m) x l ∙ sym (one_digit (suc (suc m)) x l))
    (λ l. more_digits (suc m) x l ∙ ap (λ ds. ds ++ ((48 + x % 10) ∷ [])) (same_digits m (x / 10) (fewer (suc m) x h)) ∙ sym (more_digits (suc (suc m)) x l))

pub decimal_one : (x : ℕ) → x < 10 → decimal x ≡ (48 + x) ∷ []
unfolding decimal
decimal_one x h = one_digit 19 x h

pub decimal_more : (x : ℕ) → 10 ≤ x → x ≤ most → decimal x ≡ decimal (x / 10) ++ ((48 + x % 10) ∷ [])
unfolding decimal
decimal_more x h high =
    more_digits 19 x h ∙ ap (λ ds. ds ++ ((48 + x % 10) ∷ [])) (same_digits 18 (x / 10) (omega arith))

-- what holds of one digit, and of a number where it holds of what is before its last digit, holds of all
pub by_digits : (P : ℕ → Type 0) → ((x : ℕ) → x < 10 → P x) → ((x : ℕ) → 10 ≤ x → x ≤ most → P (x / 10) → P x) → (x : ℕ) → x ≤ most → P x
by_digits P one more x h = go 20 x h (omega arith)
  where
    go : (m x : ℕ) → x ≤ most → x < 10 ^ m → P x
    go zero x h l = one x (omega arith)
    go (suc m) x h l = by_lt x 10 (one x) (λ g. more x g h (go m (x / 10) (omega arith) (fewer m x l)))

-- ---- lengths

pub long_one : (x : ℕ) → x < 10 → length (decimal x) ≡ 1
long_one x h = ap length (decimal_one x h)

pub long_more : (x : ℕ) → 10 ≤ x → x ≤ most → length (decimal x) ≡ length (decimal (x / 10)) + 1
long_more x h high = ap length (decimal_more x h high) ∙ length-append (decimal (x / 10)) ((48 + x % 10) ∷ [])

pub long_below : (m x : ℕ) → x ≤ most → x < 10 ^ suc m → length (decimal x) ≤ suc m
long_below zero x h l = omega (arith, long_one x (omega arith))
long_below (suc m) x h l =
    by_lt x 10 (λ g. omega (arith, long_one x g))
    (λ g. omega (arith, long_more x g h, long_below m (x / 10) (omega arith) (fewer (suc m) x l)))

pub long_most : (x : ℕ) → x ≤ most → length (decimal x) ≤ 20
long_most x h = long_below 19 x h (omega arith)

pub long_byte : (x : ℕ) → x ≤ 255 → length (decimal x) ≤ 3
long_byte x h = long_below 2 x (omega arith) (omega arith)
