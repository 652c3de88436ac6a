-- How long a line is, as the place of its first newline tells. Assumes nothing.
use Rattle.std.proofs.Common.{ℕ, zero, suc, ◌≡◌, ◌∙◌, sym, ◌+◌, ◌≤◌, ◌<◌, true, false, List, [], ◌∷◌, eqb, length, get_or, arith, Some, None, ap, refl}
use Rattle.std.proofs.lemmas.Option.{none-some}
use borrow.Author.Tests.{lt-ltb}
use Rattle.std.specs.Bool.{◌==◌}
use Rattle.std.specs.List.{position, position_or_len}
use Rattle.std.proofs.lemmas.List.Quantifiers.{position-Some}
use Rattle.rows.proofs.Cases.{by_test, by_lt}
use Rattle.line.specs.Line.{line_long}

first_there : (xs : List ℕ) (i : ℕ) → i < length xs → eqb (get_or xs i 0) 10 ≡ true → ((k : ℕ) → k < i → eqb (get_or xs k 0) 10 ≡ false) → line_long xs ≡ i + 1
unfolding line_long
first_there [] i l here before = absurd (omega arith)
first_there (x ∷ xs) zero l here before = rw here
first_there (x ∷ xs) (suc i) l here before =
    rw (before 0 (omega arith), first_there xs i (omega arith) here (λ k h. before (suc k) (omega arith))) (omega arith)

pub ends_at : (xs : List ℕ) (i : ℕ) → position (λ byte. byte == 10) xs ≡ Some i → line_long xs ≡ i + 1
ends_at xs i is =
    let so = position-Some (λ byte. eqb byte 10) xs i 0 is in first_there xs i so.0 so.1 so.2

nowhere : (xs : List ℕ) → length xs ≤ position_or_len (λ byte. byte == 10) xs → line_long xs ≡ length xs
unfolding line_long
nowhere [] l = refl
nowhere (x ∷ xs) l =
    by_test (eqb x 10) (λ t. absurd (omega (arith, rw t at l))) (λ f. rw f (ap suc (nowhere xs (omega (arith, rw f at l)))))

pub ends_nowhere : (xs : List ℕ) → position (λ byte. byte == 10) xs ≡ None → line_long xs ≡ length xs
ends_nowhere xs is =
    by_lt (position_or_len (λ byte. byte == 10) xs) (length xs)
    (λ l. let found : position (λ byte. byte == 10) xs ≡ Some (position_or_len (λ byte. byte == 10) xs) = rw (lt-ltb _ _ l) refl in absurd (none-some _ (sym is ∙ found)))
    (nowhere xs)

pub line_inside : (xs : List ℕ) → line_long xs ≤ length xs
unfolding line_long
line_inside [] = omega arith
line_inside (byte ∷ bytes) = by_test (eqb byte 10) (λ t. rw t (omega arith)) (λ f. rw f (omega (arith, line_inside bytes)))
