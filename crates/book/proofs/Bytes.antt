-- Numbers in bytes. A number below 2 ^ (8 × w) is what its w bytes stand for, and bytes are those of the number they stand for;
-- both by taking off the least byte. Assumes nothing.
use Prim.Native.Nat.{ℕ, zero, suc, ◌+◌, ◌*◌, ◌^◌, ◌/◌, ◌%◌, ◌≤◌, ◌<◌}
use mathlib.Core.Path.{◌≡◌, refl, sym, ◌∙◌, ap, ap₂}
use mathlib.Core.List.{List, [], ◌∷◌, ◌++◌, append_assoc, append-nil}
use native.Mathlib.Nat.{lt_of_lt_of_le}
use native.Mathlib.Omega.{arith}
use Rattle.std.proofs.Common.{Fits, w8}
use lib.Arith.{digits_div, digits_mod}
use lib.ListN.{length, take, length-append, get_or-eq_default}
use lib.Pow.{pow-add, pow_mono}
use lib.Seq.{slice, length-slice, length-take-le, get_or-drop, get_or-take, get_or-append_seam}
use Rattle.rows.specs.Row.{at}
use Rattle.rows.proofs.Cases.{by_lt}
use Rattle.book.specs.Format.{Bytes, bytes_of, number_in}

more_bytes : (w : ℕ) → 2 ^ (8 * suc w) ≡ 256 * 2 ^ (8 * w)
more_bytes w = let e : 8 * suc w ≡ 8 + 8 * w = omega arith in ap (λ x. 2 ^ x) e ∙ pow-add 2 8 (8 * w)

pub bytes_long : (w x : ℕ) → length (bytes_of w x) ≡ w
unfolding bytes_of
bytes_long zero x = refl
bytes_long (suc w) x = ap suc (bytes_long w (x / 256))

pub number_back : (w x : ℕ) → x < 2 ^ (8 * w) → number_in (bytes_of w x) ≡ x
unfolding number_in bytes_of
number_back zero x h = omega arith
number_back (suc w) x h =
    let small : x / 256 < 2 ^ (8 * w) = omega (arith, more_bytes w) in
    rw (number_back w (x / 256) small) (omega arith)

pub bytes_back : (xs : List ℕ) → Bytes xs → bytes_of (length xs) (number_in xs) ≡ xs
unfolding number_in bytes_of Bytes
bytes_back [] b = refl
bytes_back (x ∷ xs) b =
    let byte : x < 256 = b 0 in
    let order : x + 256 * number_in xs ≡ number_in xs * 256 + x = omega arith in
    let low : (x + 256 * number_in xs) % 256 ≡ x = ap (λ y. y % 256) order ∙ digits_mod (number_in xs) byte in
    let high : (x + 256 * number_in xs) / 256 ≡ number_in xs = ap (λ y. y / 256) order ∙ digits_div (number_in xs) byte in
    ap₂ (λ (y : ℕ) (ys : List ℕ). y ∷ ys) low (ap (bytes_of (length xs)) high ∙ bytes_back xs (λ i. b (suc i)))

-- a slice of bytes
slice_bytes : (xs : List ℕ) (f t : ℕ) → t ≤ length xs → Bytes xs → Bytes (slice f t xs)
unfolding Bytes
slice_bytes xs f t inside b i =
    rw (get_or-drop f (take t xs) i 0)
    (by_lt (f + i) t (λ l. rw (get_or-take t xs (f + i) 0 l) (b (f + i)))
    (λ g. rw (get_or-eq_default (take t xs) 0 {n = f + i} (omega (arith, length-take-le t xs inside))) (omega arith)))

-- it holds the bytes of its number
pub slice_back : (xs : List ℕ) (f w : ℕ) → Bytes xs → f + w ≤ length xs → bytes_of w (number_in (slice f (f + w) xs)) ≡ slice f (f + w) xs
slice_back xs f w b inside =
    let long : w ≡ length (slice f (f + w) xs) = omega (arith, length-slice f (f + w) xs inside) in
    ap (λ x. bytes_of x (number_in (slice f (f + w) xs))) long ∙ bytes_back (slice f (f + w) xs) (slice_bytes xs f (f + w) inside b)

-- ---- read from the last byte to the first

-- of the bytes xs these are left, and the number is that of those behind them
pub record Reading (xs left : List ℕ) (number : ℕ) : Type 0 where
  pub read : List ℕ
  pub parts : xs ≡ left ++ read
  pub is : number ≡ number_in read
  pub small : number < 2 ^ (8 * length read)

pub nothing_read : (xs : List ℕ) → Reading xs xs 0
unfolding number_in
nothing_read xs = record { read = []; parts = sym (append-nil xs); is = refl; small = omega arith }

module _ {xs left : List ℕ} (before : List ℕ) {number : ℕ} (byte : ℕ) (bytes : (i : ℕ) → Fits w8 (at xs i)) (few : length xs ≤ 8) (so : Reading xs left number) (next : left ≡ before ++ byte ∷ []) where
  parts_too : xs ≡ before ++ byte ∷ so.read
  parts_too = so.parts ∙ ap (λ ys. ys ++ so.read) next ∙ append_assoc before (byte ∷ []) so.read

  pub room : number < 2 ^ 56
  room =
      lt_of_lt_of_le so.small (pow_mono {j = 56} (omega (arith, ap length parts_too, length-append before (byte ∷ so.read))))

  pub byte_low : byte < 256
  byte_low =
      let there : at xs (length before) ≡ byte = ap (λ ys. at ys (length before)) parts_too ∙ get_or-append_seam before byte so.read 0 in
      omega (arith, bytes (length before))

  pub byte_read : {b : ℕ} → b ≡ byte → Reading xs before (number * 256 + b)
  unfolding number_in
  byte_read {b} is = record {
    read = byte ∷ so.read;
    parts = parts_too;
    is = let low = so.is in omega arith;
    small = omega (arith, so.small, more_bytes (length so.read), byte_low);
  }
