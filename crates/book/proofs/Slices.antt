-- Parts of a list, and lists one behind the other. A list is cut at a place into what is before and what is behind, so a slice of
-- lists that are joined is the list whose place it has. Assumes nothing.
use Prim.Native.Nat.{ℕ, zero, suc, ◌+◌, ◌-◌, ◌≤◌, ◌<◌}
use mathlib.Core.Path.{◌≡◌, refl, sym, ◌∙◌, ap, ap₂}
use mathlib.Core.List.{List, [], ◌++◌, append_assoc, append-nil}
use native.Mathlib.Nat.{le_refl, not-suc-le-zero}
use native.Mathlib.Omega.{arith}
use lib.ListN.{length, take, drop, take-append-drop, length-append}
use lib.Seq.{slice, length-slice, length-take-le, take-take, get_or-take, get_or-drop, drop-append-le, take_at, drop_at, ext_get_or}
use Rattle.std.proofs.lemmas.List.{drop-take}
use Rattle.rows.specs.Row.{at, row}
use Rattle.rows.proofs.Cases.{by_last}
use Rattle.rows.proofs.Rows.{length_row, at_row}
use Rattle.book.specs.Format.{joined}

-- ---- slices

pub take_slice : (xs : List ℕ) (m t : ℕ) → m ≤ t → take t xs ≡ take m xs ++ slice m t xs
take_slice xs m t h = sym (take-append-drop m (take t xs)) ∙ ap (λ ys. ys ++ slice m t xs) (take-take m t xs h)

pub slice_split : (xs : List ℕ) (f m t : ℕ) → f ≤ m → m ≤ t → m ≤ length xs → slice f t xs ≡ slice f m xs ++ slice m t xs
slice_split xs f m t fm mt inside =
    ap (drop f) (take_slice xs m t mt) ∙ drop-append-le f (take m xs) (slice m t xs) (omega (arith, length-take-le m xs inside))

pub slice_at : (xs : List ℕ) (f t j : ℕ) → f + j < t → at (slice f t xs) j ≡ at xs (f + j)
slice_at xs f t j h = get_or-drop f (take t xs) j 0 ∙ get_or-take t xs (f + j) 0 h

-- a slice is the row of what stands there
pub slice_row : (xs : List ℕ) (f w : ℕ) → f + w ≤ length xs → slice f (f + w) xs ≡ row (λ p. at xs (f + p)) w
slice_row xs f w h =
    let long : length (slice f (f + w) xs) ≡ w = omega (arith, length-slice f (f + w) xs h) in
    ext_get_or 0 (slice f (f + w) xs) (row (λ p. at xs (f + p)) w) (long ∙ sym (length_row _ w))
    (λ j l. slice_at xs f (f + w) j (omega arith) ∙ sym (at_row (λ p. at xs (f + p)) w j (omega arith)))

-- what code takes of a list from place f to place t is the slice
pub part_slice : (f t : ℕ) (xs : List ℕ) → f ≤ t → take (t - f) (drop f xs) ≡ slice f t xs
part_slice f t xs h =
    let ends : f + (t - f) ≡ t = omega arith in sym (drop-take f (t - f) xs) ∙ ap (λ x. drop f (take x xs)) ends

-- a slice of a slice
pub slice_within : (xs : List ℕ) (f t g u : ℕ) → g ≤ u → f + u ≤ t → t ≤ length xs → slice (f + g) (f + u) xs ≡ slice g u (slice f t xs)
slice_within xs f t g u gu ut inside =
    let outer : length (slice f t xs) ≡ t - f = length-slice f t xs inside in
    let long : length (slice (f + g) (f + u) xs) ≡ u - g = omega (arith, length-slice (f + g) (f + u) xs (omega arith)) in
    let long_too : length (slice g u (slice f t xs)) ≡ u - g = length-slice g u (slice f t xs) (omega arith) in
    ext_get_or 0 (slice (f + g) (f + u) xs) (slice g u (slice f t xs)) (long ∙ sym long_too)
    (λ j l.
    let there : f + g + j ≡ f + (g + j) = omega arith in
    slice_at xs (f + g) (f + u) j (omega arith) ∙ ap (at xs) there ∙ sym (slice_at xs f t (g + j) (omega arith)) ∙
    sym (slice_at (slice f t xs) g u j (omega arith)))

-- ---- lists one behind the other

pub joined_ext : (f g : ℕ → List ℕ) (m : ℕ) → ((i : ℕ) → i < m → f i ≡ g i) → joined f m ≡ joined g m
unfolding joined
joined_ext f g zero e = refl
joined_ext f g (suc m) e = ap₂ (λ (xs ys : List ℕ). xs ++ ys) (joined_ext f g m (λ i l. e i (omega arith))) (e m (le_refl _))

-- there is a rest behind each of them
joined_cut : (f : ℕ → List ℕ) {i : ℕ} (m : ℕ) → i < m → (rest : List ℕ) × (joined f m ≡ joined f i ++ f i ++ rest)
unfolding joined
joined_cut f zero l = absurd (not-suc-le-zero l)
joined_cut f {i} (suc m) l =
    by_last (λ x. (rest : List ℕ) × (joined f m ++ f m ≡ joined f x ++ f x ++ rest)) l
    (λ l'. let cut = joined_cut f {i = i} m l' in (cut.0 ++ f m, ap (λ ys. ys ++ f m) cut.1 ∙ append_assoc (joined f i ++ f i) cut.0 (f m)))
    ([], sym (append-nil (joined f m ++ f m)))

-- so each is the slice of its place
pub joined_slice : (before behind : List ℕ) (f : ℕ → List ℕ) {i : ℕ} (m : ℕ) {place width : ℕ} → i < m → length (before ++ joined f i) ≡ place → length (f i) ≡ width →
    slice place (place + width) (before ++ joined f m ++ behind) ≡ f i
joined_slice before behind f {i} m {place} {width} l here long =
    let cut = joined_cut f {i = i} m l in
    let parts : before ++ joined f m ++ behind ≡ before ++ joined f i ++ f i ++ (cut.0 ++ behind) =
    ap (λ ys. before ++ ys ++ behind) cut.1 ∙ simp append_assoc in
    let whole : length (before ++ joined f i ++ f i) ≡ place + width = length-append (before ++ joined f i) (f i) ∙ ap₂ ◌+◌ here long in
    ap (slice place (place + width)) parts ∙ ap (drop place) (take_at (before ++ joined f i ++ f i) (cut.0 ++ behind) (place + width) whole) ∙
    drop_at (before ++ joined f i) (f i) place here
