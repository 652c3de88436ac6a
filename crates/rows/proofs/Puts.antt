-- Texts written one behind the other into a buffer are one text written into it, so a long text is written by its parts. Each law
-- looks at the buffer before, in and behind what is written. Assumes nothing.
use mathlib.Core.Path.{◌≡◌, refl, sym, ap, ◌∙◌}
use mathlib.Core.List.{List, [], ◌∷◌, ◌++◌, append_assoc}
use Prim.Native.Nat.{ℕ, suc, ◌+◌, ◌≤◌, ◌<◌}
use native.Mathlib.Nat.{le_refl}
use native.Mathlib.Omega.{arith}
use lib.ListN.{length, take, drop, set, length-append, length-set}
use lib.Seq.{paste, paste-zero, length-paste, take-paste, drop-paste, take-length, drop-drop, drop-cons, get_or-set_same, drop-set-lt, take-set-le}
use Rattle.rows.specs.Put.{Put}

pub put_length : {xs text ys : List ℕ} {from r : ℕ} → from + length text ≤ length xs → Put xs from text r ys → length ys ≡ length xs
put_length {xs} {text} {from = from} fits p = ap length p.holds ∙ length-paste xs from text (length text) fits (le_refl _)

pasted : (xs : List ℕ) (from : ℕ) (text : List ℕ) → paste xs from text (length text) ≡ take from xs ++ text ++ drop (from + length text) xs
pasted xs from text = rw take-length

pub put_both : {xs a b ys zs : List ℕ} {from r q : ℕ} → from + (length a + length b) ≤ length xs → Put xs from a r ys → Put ys r b q zs → Put xs from (a ++ b) q zs
put_both {xs} {a} {b} {ys} {zs} {from} {r} {q} fits p o =
    let far : from + length a + length b ≡ from + length (a ++ b) = simp length-append (omega arith) in
    let e : ys ≡ paste xs from a (length a) = p.holds in
    let front : take r ys ≡ take from xs ++ a = rw (p.ends, e) (take-paste xs from a (length a) (omega arith) (le_refl _) ∙ rw take-length) in
    let back : drop r ys ≡ drop (from + length a) xs = rw (p.ends, e) (drop-paste xs from a (length a) (omega arith) (le_refl _)) in
    let behind : drop (r + length b) ys ≡ drop (from + length (a ++ b)) xs =
    sym (drop-drop (length b) r ys) ∙ ap (drop (length b)) back ∙ drop-drop (length b) (from + length a) xs ∙ ap (λ k. drop k xs) far in
    record {
      ends = o.ends ∙ ap (λ x. x + length b) p.ends ∙ far;
      holds = o.holds ∙ pasted ys r b ∙ (rw (front, behind) (simp append_assoc)) ∙ sym (pasted xs from (a ++ b));
    }

-- a text with one byte more is the text, written after that byte is stored
pub byte_first : (xs : List ℕ) (from : ℕ) (text : List ℕ) (b : ℕ) → from + length text < length xs →
    paste (set xs (from + length text) b) from text (length text) ≡ paste xs from (text ++ (b ∷ [])) (length (text ++ (b ∷ [])))
byte_first xs from text b h =
    let far : from + length (text ++ (b ∷ [])) ≡ suc (from + length text) = simp length-append (omega arith) in
    let ys = set xs (from + length text) b in
    let back : drop (from + length text) ys ≡ b ∷ drop (suc (from + length text)) xs =
    drop-cons ys (from + length text) 0 (rw length-set h) ∙ rw (get_or-set_same xs (from + length text) b 0 h, drop-set-lt (suc (from + length text)) xs (from + length text) b (le_refl _)) in
    pasted ys from text ∙ (rw (back, take-set-le from xs (from + length text) b (omega arith), far) (simp append_assoc)) ∙ sym (pasted xs from (text ++ (b ∷ [])))

-- a byte
pub put_one : (xs : List ℕ) (from b : ℕ) → from + 1 ≤ length xs → Put xs from (b ∷ []) (from + 1) (set xs from b)
put_one xs from b h =
    let here : from ≡ from + 0 = omega arith in
    record {
      ends = refl;
      holds = ap (λ k. set xs k b) here ∙ paste-zero (set xs (from + 0) b) from [] ∙ byte_first xs from [] b (omega arith);
    }

-- the same text, and the same end
pub put_as : {xs text other ys : List ℕ} {from r q : ℕ} → text ≡ other → r ≡ q → Put xs from text r ys → Put xs from other q ys
put_as e f so = rw (← e, ← f) so

-- a byte behind a text
pub put_behind : {xs text ys : List ℕ} {from r : ℕ} (b : ℕ) → r < length xs → Put xs from text r ys → Put xs from (text ++ (b ∷ [])) (r + 1) (set ys r b)
put_behind {xs} {text} {ys} {from} {r} b h so =
    let fits : from + (length text + 1) ≤ length xs = omega (arith, so.ends) in
    put_both fits so (put_one ys r b (omega (arith, put_length (omega arith) so)))

-- a text at the buffer's start
pub put_front : {xs text ys : List ℕ} {r : ℕ} → Put xs 0 text r ys → (r ≡ length text) × (ys ≡ text ++ drop (length text) xs)
put_front {xs} {text} so =
    let here : 0 + length text ≡ length text = omega arith in
    (so.ends ∙ here, so.holds ∙ pasted xs 0 text ∙ ap (λ k. text ++ drop k xs) here)

-- nothing
pub put_none : (xs : List ℕ) (from : ℕ) → Put xs from [] from xs
put_none xs from = record { ends = omega arith; holds = paste-zero xs from [] }
