-- The laws of `row`, `at` and `front`. A row grows at its end, so each is an induction on its length; a loop that fills a
-- buffer keeps it equal to a `front`, and one turn of it is `stored`. Assumes nothing.
use mathlib.Core.Path.{◌≡◌, refl, sym, ◌∙◌, ap, ap₂}
use mathlib.Core.List.{List, [], ◌∷◌, ◌++◌, append_assoc}
use Prim.Native.Nat.{ℕ, zero, suc, ◌+◌, ◌-◌, ◌<◌, ◌≤◌}
use native.Mathlib.Nat.{not-suc-le-zero, le_refl}
use native.Mathlib.Numerals.{add-one}
use native.Mathlib.Omega.{arith}
use lib.ListN.{length, get_or, set, take, drop, length-append, length-drop, length-set, get_or-append}
use lib.Seq.{take-suc, take-length, drop-cons, set_at, get_or_at, get_or-append-add, get_or-drop, get_or-set_same, get_or-set_other, ext_get_or}
use Rattle.rows.specs.Row.{at, row, front}
use Rattle.rows.proofs.Cases.{by_last, by_lt, by_eq}

-- ---- a row

pub length_row : (f : ℕ → ℕ) (n : ℕ) → length (row f n) ≡ n
unfolding row
length_row f zero = refl
length_row f (suc n) = simp (length-append, length_row f n) (omega arith)

pub at_row : (f : ℕ → ℕ) (n i : ℕ) → i < n → at (row f n) i ≡ f i
unfolding row
at_row f zero i h = absurd (not-suc-le-zero h)
at_row f (suc n) i h =
    by_last (λ x. get_or (row f n ++ (f n ∷ [])) x 0 ≡ f x) h
    (λ l. let h : i < length (row f n) = rw length_row l in get_or-append (row f n) (f n ∷ []) 0 i h ∙ at_row f n i l)
    (get_or_at (row f n) (f n) [] 0 n (length_row f n))

-- two functions that agree below n have the same row
pub row_ext : (f g : ℕ → ℕ) (n : ℕ) → ((i : ℕ) → i < n → f i ≡ g i) → row f n ≡ row g n
unfolding row
row_ext f g zero e = refl
row_ext f g (suc n) e =
    ap₂ (λ (s : List ℕ) (x : ℕ). s ++ (x ∷ [])) (row_ext f g n (λ i h. e i (omega arith))) (e n (le_refl _))

-- the row of what stands in the first n slots
pub taken : (xs : List ℕ) (n : ℕ) → n ≤ length xs → take n xs ≡ row (at xs) n
unfolding row
taken xs zero h = refl
taken xs (suc n) h = take-suc xs n 0 h ∙ ap (λ ys. ys ++ (at xs n ∷ [])) (taken xs n (omega arith))

-- of a whole row, the row itself
pub whole : (xs : List ℕ) → xs ≡ row (at xs) (length xs)
whole xs = sym (take-length xs) ∙ taken xs (length xs) (le_refl _)

-- ---- a front

pub length_front : (f : ℕ → ℕ) (n : ℕ) (xs : List ℕ) → n ≤ length xs → length (front f n xs) ≡ length xs
unfolding front
length_front f n xs h = simp (length-append, length_row, length-drop) (omega arith)

-- the first n slots are f's
pub at_front : (f : ℕ → ℕ) (n : ℕ) (xs : List ℕ) (i : ℕ) → i < n → at (front f n xs) i ≡ f i
unfolding front
at_front f n xs i h =
    let l : i < length (row f n) = rw length_row h in get_or-append (row f n) (drop n xs) 0 i l ∙ at_row f n i h

-- and those behind are the list's
pub at_behind : (f : ℕ → ℕ) (n : ℕ) (xs : List ℕ) (i : ℕ) → n ≤ i → at (front f n xs) i ≡ at xs i
unfolding front
at_behind f n xs i h =
    let e : i ≡ length (row f n) + (i - n) = omega (arith, length_row f n) in
    let back : n + (i - n) ≡ i = omega arith in
    ap (at (row f n ++ drop n xs)) e ∙ get_or-append-add (row f n) (drop n xs) (i - n) 0 ∙ get_or-drop n xs (i - n) 0 ∙ ap (at xs) back

-- the front of a list from which f does not differ behind it is the row of f
pub front_row : (f : ℕ → ℕ) (n : ℕ) (xs : List ℕ) → n ≤ length xs → ((i : ℕ) → n ≤ i → i < length xs → f i ≡ at xs i) → front f n xs ≡ row f (length xs)
front_row f n xs h behind =
    let size = length_front f n xs h in
    ext_get_or 0 (front f n xs) (row f (length xs)) (size ∙ sym (length_row f (length xs)))
    (λ i l.
    let m : i < length xs = omega arith in
    by_lt i n (λ g. at_front f n xs i g) (λ g. at_behind f n xs i g ∙ sym (behind i g m)) ∙ sym (at_row f (length xs) i m))

-- two functions that agree below n have the same front
pub front_ext : (f g : ℕ → ℕ) (n : ℕ) (xs : List ℕ) → ((i : ℕ) → i < n → f i ≡ g i) → front f n xs ≡ front g n xs
unfolding front
front_ext f g n xs e = ap (λ (s : List ℕ). s ++ drop n xs) (row_ext f g n e)

-- ---- a loop that fills a list from its front

-- before its first turn
pub begun : (f : ℕ → ℕ) (xs : List ℕ) → xs ≡ front f 0 xs
unfolding front row
begun f xs = refl

-- one turn
pub stored : (f : ℕ → ℕ) (i : ℕ) (xs : List ℕ) {ys : List ℕ} {x : ℕ} → ys ≡ front f i xs → i < length xs → x ≡ f i → set ys i x ≡ front f (i + 1) xs
unfolding front row
stored f i xs e h q =
    rw (e, q, add-one, drop-cons xs i 0 h, set_at (row f i) (get_or xs i 0) (drop (suc i) xs) (f i) i (length_row f i), row, append_assoc)

-- at any time the list is as long as it was, and holds what was stored
pub same_length : (f : ℕ → ℕ) (i : ℕ) (xs : List ℕ) {ys : List ℕ} → ys ≡ front f i xs → i ≤ length xs → length ys ≡ length xs
same_length f i xs e h = rw e (length_front f i xs h)

pub read : (f : ℕ → ℕ) (n : ℕ) (xs : List ℕ) (i : ℕ) {ys : List ℕ} → ys ≡ front f n xs → i < n → at ys i ≡ f i
read f n xs i e h = rw e (at_front f n xs i h)

-- a copy whose first n places are f's, written over those of a list that f leaves alone behind them
pub written_back : (f : ℕ → ℕ) (n : ℕ) (zs xs : List ℕ) {copy ys : List ℕ} → copy ≡ front f n zs → ys ≡ front (at copy) n xs →
    n ≤ length xs → ((i : ℕ) → n ≤ i → i < length xs → f i ≡ at xs i) → ys ≡ row f (length xs)
written_back f n zs xs copy_is ys_is h behind =
    rw (ys_is, copy_is) (front_ext (at (front f n zs)) f n xs (λ i l. at_front f n zs i l) ∙ front_row f n xs h behind)

-- and over all of a list of n places
pub written_over : (f : ℕ → ℕ) (n : ℕ) (zs xs : List ℕ) {copy ys : List ℕ} → copy ≡ front f n zs → ys ≡ front (at copy) n xs → length xs ≡ n → ys ≡ row f n
written_over f n zs xs copy_is ys_is same =
    written_back f n zs xs copy_is ys_is (omega arith) (λ i l m. absurd (omega arith)) ∙ ap (row f) same

-- ---- a loop that writes a list anew, place by place

-- what it has not come to is as it was
pub unread : (f : ℕ → ℕ) (n : ℕ) (xs : List ℕ) (i : ℕ) {ys : List ℕ} → ys ≡ front f n xs → n ≤ i → at ys i ≡ at xs i
unread f n xs i e h = rw e (at_behind f n xs i h)

-- and in the end it is a row
pub rewritten : (f : ℕ → ℕ) (n i : ℕ) (xs : List ℕ) {ys : List ℕ} → ys ≡ front f i xs → i ≡ n → length xs ≡ n → ys ≡ row f n
rewritten f n i xs e all same =
    e ∙ ap (λ j. front f j xs) all ∙ front_row f n xs (omega arith) (λ i l m. absurd (omega arith)) ∙ ap (row f) same

-- ---- a row with one place written over

pub record Placed (f : ℕ → ℕ) (n m x : ℕ) (ys : List ℕ) : Type 0 where
  pub here : at ys m ≡ x
  pub elsewhere : (i : ℕ) → i < n → (i ≡ m → ⊥) → at ys i ≡ f i
  pub as_long : length ys ≡ n

pub placed : (f : ℕ → ℕ) (n m x : ℕ) {ys : List ℕ} → ys ≡ set (row f n) m x → m < n → Placed f n m x ys
placed f n m x e h = record {
  here = ap (λ ys. at ys m) e ∙ get_or-set_same (row f n) m x 0 (omega (arith, length_row f n));
  elsewhere = λ i l ne. ap (λ ys. at ys i) e ∙ get_or-set_other (row f n) m i x 0 ne ∙ at_row f n i l;
  as_long = ap length e ∙ length-set (row f n) m x ∙ length_row f n;
}

-- it is a row again, of what differs there alone
pub set_row : (f g : ℕ → ℕ) (n m x : ℕ) → m < n → x ≡ g m → ((i : ℕ) → i < n → (i ≡ m → ⊥) → f i ≡ g i) → set (row f n) m x ≡ row g n
set_row f g n m x h here else =
    let p = placed f n m x refl h in
    ext_get_or 0 (set (row f n) m x) (row g n) (p.as_long ∙ sym (length_row g n))
    (λ i l.
    let l' : i < n = omega (arith, p.as_long) in
    by_eq i m (λ e. rw e (p.here ∙ here)) (λ ne. p.elsewhere i l' ne ∙ else i l' ne) ∙ sym (at_row g n i l'))
