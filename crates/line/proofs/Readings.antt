-- Reading bytes from the left takes each digit of a number onto what was read before it, so it reads off a printed number what was
-- printed, whatever follows. Hence an input is the line of no two different fours, and one that can't be read is the line of none.
-- Assumes nothing.
use mathlib.Core.Path.{◌≡◌, refl, sym, ap, ◌∙◌}
use mathlib.Core.Bool.{Bool, true, false, cond}
use mathlib.Core.Logic.{◌≢◌}
use mathlib.Core.List.{List, [], ◌∷◌, ◌++◌, append_assoc, append-nil}
use Prim.Native.Nat.{ℕ, ◌+◌, ◌-◌, ◌*◌, ◌/◌, ◌%◌, ◌≤◌, ◌<◌}
use native.Mathlib.Numerals.{add-one}
use native.Mathlib.Omega.{arith}
use lib.Dec.{eqb}
use lib.ListN.{length, drop, length-drop, drop_of_length-le}
use lib.Seq.{drop-cons}
use borrow.Author.Tests.{eq-eqb, ne_eqb, eqb-false, le-leb, leb-true}
use Rattle.rows.specs.Row.{at}
use Rattle.rows.specs.Search.{outside}
use Rattle.rows.proofs.Cases.{by_lt, in_range, inside, below_range, above_range}
use Rattle.line.specs.Decimal.{most, decimal, ended, numbers_line}
use Rattle.line.specs.Line.{Says, Reads, goes_on_lem, NumberAt, NoNumber}
use Rattle.line.specs.declared.Numbers.{Numbers}
use Rattle.std.specs.declared.option.Option.{Option}
use Rattle.std.proofs.Common.{Some, None, SomeIff, take, take_all}
use Rattle.line.proofs.Decimals.{decimal_one, decimal_more, by_digits}

-- ---- one more digit

pub goes_on : (v b : ℕ) → 48 ≤ b → b ≤ 57 → 1 ≤ v → v * 10 + (b - 48) ≤ most → goes_on_lem v b ≡ true
unfolding goes_on_lem
goes_on v b low high some fits = rw (in_range 48 57 b low high, ne_eqb v 0 (omega arith), le-leb (v * 10 + (b - 48)) most fits)

pub record Digit (v b : ℕ) : Type 0 where
  pub low : 48 ≤ b
  pub high : b ≤ 57
  pub some : 1 ≤ v
  pub fits : v * 10 + (b - 48) ≤ most

neither : (a b : Bool) → cond a false b ≡ true → (a ≡ false) × (b ≡ true)
neither true b e = absurd (let z : ◌≡◌ {A = ℕ} 0 1 = cc in omega arith)
neither false b e = (refl, e)

pub goes_digit : (v b : ℕ) → goes_on_lem v b ≡ true → Digit v b
unfolding goes_on_lem
goes_digit v b e =
    let first = neither (outside 48 57 b) _ e in
    let second = neither (eqb v 0) _ first.1 in
    let range = inside 48 57 b first.0 in
    let some = eqb-false v 0 second.0 in
    let fits = leb-true (v * 10 + (b - 48)) most second.1 in
    record { low = range.0; high = range.1; some = by_lt 0 v (λ l. l) (λ l. absurd (some (omega arith))); fits = fits }

-- a test that never holds
never_true : (b : Bool) → (b ≡ true → ⊥) → b ≡ false
never_true true never = absurd (never refl)
never_true false never = refl

-- the same number under the same condition, said otherwise
pub some_as : (o : Option ℕ) {P Q : Type 0} {v w : ℕ} → SomeIff o P v → (P → Q) → (Q → P) → v ≡ w → SomeIff o Q w
some_as None so there back same = λ q. so (back q)
some_as (Some x) so there back same = (there so.0, so.1 ∙ same)

-- ---- the reading of a number

data Found : Type 0 where
  number : ℕ → List ℕ → Found
  none : Found

-- behind what was read up to v
unfoldable on : ℕ → ℕ → List ℕ → Found
on end v [] = none
on end v (b ∷ bs) = cond (eqb b end) (number v bs) (cond (goes_on_lem v b) (on end (v * 10 + (b - 48)) bs) none)

-- at its first byte
unfoldable begin : ℕ → List ℕ → Found
begin end [] = none
begin end (b ∷ bs) = cond (outside 48 57 b) none (on end (b - 48) bs)

module _ (end : ℕ) (apart : end < 48) where
  -- what is printed is read off again, whatever follows
  digits_read : (x : ℕ) → x ≤ most → (ys : List ℕ) → begin end (decimal x ++ ys) ≡ on end x ys
  unfolding begin on
  digits_read = by_digits (λ x. (ys : List ℕ) → begin end (decimal x ++ ys) ≡ on end x ys) one more
    where
      one : (x : ℕ) → x < 10 → (ys : List ℕ) → begin end (decimal x ++ ys) ≡ on end x ys
      one x h ys =
          let e : 48 + x - 48 ≡ x = omega arith in
          rw (decimal_one x h, in_range 48 57 (48 + x) (omega arith) (omega arith), e)

      more : (x : ℕ) → 10 ≤ x → x ≤ most → ((ys : List ℕ) → begin end (decimal (x / 10) ++ ys) ≡ on end (x / 10) ys) →
          (ys : List ℕ) → begin end (decimal x ++ ys) ≡ on end x ys
      more x h high before ys =
          let e : x / 10 * 10 + (48 + x % 10 - 48) ≡ x = omega arith in
          rw (decimal_more x h high, append_assoc, before, ne_eqb (48 + x % 10) end (omega arith), goes_on (x / 10) (48 + x % 10) (omega arith) (omega arith) (omega arith) (omega arith), e)

  number_read : (x : ℕ) → x ≤ most → (ys : List ℕ) → begin end (ended x end ++ ys) ≡ number x ys
  unfolding ended on
  number_read x h ys = rw (append_assoc, digits_read x h, eq-eqb end end refl)

  -- so the number and what follows it can be told
  pub one_number : {v w : ℕ} {ys zs : List ℕ} → v ≤ most → w ≤ most → ended v end ++ ys ≡ ended w end ++ zs → (v ≡ w) × (ys ≡ zs)
  one_number {v} {w} {ys} {zs} hv hw e =
      let same : number v ys ≡ number w zs = sym (number_read v hv ys) ∙ ap (begin end) e ∙ number_read w hw zs in (cc, cc)

  -- where the reading finds none, there is none
  nothing : (xs : List ℕ) → begin end xs ≡ none → NoNumber xs end
  nothing xs e v ys h bytes =
      let never : number v ys ≡ none = sym (number_read v h ys) ∙ ap (begin end) (sym bytes) ∙ e in
      let z : ◌≡◌ {A = ℕ} 0 1 = cc in absurd (omega arith)

-- ---- a loop that reads a number

-- v was read of the first digit and of i bytes behind it
pub record Reading (xs bytes : List ℕ) (v i : ℕ) : Type 0 where
  pub high : v ≤ most
  pub inside : i ≤ length bytes
  pub so_far : xs ≡ decimal v ++ drop i bytes

ahead : (xs : List ℕ) (i : ℕ) → i < length xs → drop i xs ≡ at xs i ∷ drop (i + 1) xs
ahead xs i l = rw add-one (drop-cons xs i 0 l)

pub reading_first : {xs bytes : List ℕ} {first v : ℕ} → xs ≡ first ∷ bytes → 48 ≤ first → first ≤ 57 → v ≡ first - 48 → Reading xs bytes v 0
reading_first {first = first} {v} is low high v_is =
    let back : 48 + v ≡ first = omega arith in
    record {
      high = omega arith;
      inside = omega arith;
      so_far = is ∙ rw (decimal_one v (omega arith), back);
    }

pub reading_on : {xs bytes : List ℕ} {v w i : ℕ} → Reading xs bytes v i → i < length bytes → (goes_on_lem v (at bytes i) ≡ true) × (w ≡ v * 10 + (at bytes i - 48)) → Reading xs bytes w (i + 1)
reading_on {bytes = bytes} {v} {w} {i} so l on =
    let d = goes_digit v (at bytes i) on.0 in
    let high : w ≤ most = omega (arith, d.fits, on.1) in
    let front : w / 10 ≡ v = omega (arith, d.low, d.high, on.1) in
    let back : 48 + w % 10 ≡ at bytes i = omega (arith, d.low, d.high, on.1) in
    record {
      high = high;
      inside = omega arith;
      so_far = so.so_far ∙ rw (ahead bytes i l, decimal_more w (omega (arith, d.some, on.1)) high, front, back, append_assoc);
    }

pub reading_ends : {xs bytes : List ℕ} {v i end : ℕ} → Reading xs bytes v i → i < length bytes → at bytes i ≡ end → NumberAt xs end v (take (length bytes - (i + 1)) (drop (i + 1) bytes))
unfolding ended
reading_ends {bytes = bytes} {i = i} so l e =
    let all = take_all (length bytes - (i + 1)) (drop (i + 1) bytes) (omega (arith, length-drop (i + 1) bytes)) in
    record { high = so.high; bytes = so.so_far ∙ rw (all, ahead bytes i l, e, append_assoc) }

-- no number is there: the input is over, or its next byte is not what may follow
pub no_byte : (xs : List ℕ) (end : ℕ) → end < 48 → length xs ≡ 0 → NoNumber xs end
unfolding begin
no_byte [] end apart e = nothing end apart [] refl
no_byte (byte ∷ bytes) end apart e = absurd (omega arith)

pub no_digit : {xs bytes : List ℕ} {first : ℕ} (end : ℕ) → end < 48 → xs ≡ first ∷ bytes → (48 ≤ first → first ≤ 57 → ⊥) → NoNumber xs end
unfolding begin
no_digit {xs} {first = first} end apart is never =
    let out : outside 48 57 first ≡ true = by_lt first 48 (λ l. below_range 48 57 first l) (λ g. above_range 48 57 first g (by_lt 57 first (λ l. l) (λ h. absurd (never g h)))) in
    nothing end apart xs (rw (is, out))

module _ {xs bytes : List ℕ} {v i : ℕ} (end : ℕ) (apart : end < 48) (so : Reading xs bytes v i) where
  here : begin end xs ≡ on end v (drop i bytes)
  here = rw so.so_far (digits_read end apart v so.high (drop i bytes))

  pub stuck : i < length bytes → at bytes i ≢ end → (goes_on_lem v (at bytes i) ≡ true → ⊥) → NoNumber xs end
  unfolding on
  stuck l ne never = nothing end apart xs (here ∙ rw (ahead bytes i l, ne_eqb (at bytes i) end ne, never_true _ never))

  pub run_out : length bytes ≤ i → NoNumber xs end
  unfolding on
  run_out l = nothing end apart xs (here ∙ rw (drop_of_length-le bytes l))

-- ---- the reading of a line

no_bytes : (xs : List ℕ) → length xs ≡ 0 → xs ≡ []
no_bytes [] e = refl
no_bytes (byte ∷ bytes) e = absurd (omega arith)

-- the line, with each number before what follows it
said : {xs : List ℕ} {n k r t : ℕ} → Says xs n k r t → xs ≡ ended n 32 ++ (ended k 32 ++ (ended r 32 ++ (ended t 10 ++ [])))
unfolding numbers_line
said so = so.bytes ∙ simp (append_assoc, append-nil)

-- what follows the number that was read
follows : {xs : List ℕ} {end v w : ℕ} {rest ys : List ℕ} → end < 48 → NumberAt xs end v rest → w ≤ most → xs ≡ ended w end ++ ys → rest ≡ ys
follows {end = end} apart at_hand h e = (one_number end apart at_hand.high h (sym at_hand.bytes ∙ e)).1

pub bad_first : (xs : List ℕ) → NoNumber xs 32 → Reads xs None
unfolding Reads
bad_first xs missing n k r t says = missing n _ says.n_high (said says)

module _ {xs : List ℕ} {n : ℕ} {ps : List ℕ} (first : NumberAt xs 32 n ps) where
  second_follows : {n' k' r' t' : ℕ} → Says xs n' k' r' t' → ps ≡ ended k' 32 ++ (ended r' 32 ++ (ended t' 10 ++ []))
  second_follows says = follows (omega arith) first says.n_high (said says)

  pub bad_second : NoNumber ps 32 → Reads xs None
  unfolding Reads
  bad_second missing _ k _ _ says = missing k _ says.k_high (second_follows says)

  module _ {k : ℕ} {qs : List ℕ} (second : NumberAt ps 32 k qs) where
    third_follows : {n' k' r' t' : ℕ} → Says xs n' k' r' t' → qs ≡ ended r' 32 ++ (ended t' 10 ++ [])
    third_follows says = follows (omega arith) second says.k_high (second_follows says)

    pub bad_third : NoNumber qs 32 → Reads xs None
    unfolding Reads
    bad_third missing _ _ r _ says = missing r _ says.r_high (third_follows says)

    module _ {r : ℕ} {us : List ℕ} (third : NumberAt qs 32 r us) where
      fourth_follows : {n' k' r' t' : ℕ} → Says xs n' k' r' t' → us ≡ ended t' 10 ++ []
      fourth_follows says = follows (omega arith) third says.r_high (third_follows says)

      pub bad_fourth : NoNumber us 10 → Reads xs None
      unfolding Reads
      bad_fourth missing _ _ _ t says = missing t _ says.t_high (fourth_follows says)

      module _ {t : ℕ} {zs : List ℕ} (fourth : NumberAt us 10 t zs) where
        -- bytes behind the newline
        pub bad_behind : length zs ≢ 0 → Reads xs None
        unfolding Reads
        bad_behind some _ _ _ _ says =
            some (ap length (follows (omega arith) fourth says.t_high (fourth_follows says)))

        -- and none: the line of the four numbers
        pub line_read : length zs ≡ 0 → Reads xs (Some (record { n = n; k = k; rank = r; count = t }))
        unfolding Reads numbers_line
        line_read over = record {
          n_high = first.high;
          k_high = second.high;
          r_high = third.high;
          t_high = fourth.high;
          bytes = first.bytes ∙ rw (second.bytes, third.bytes, fourth.bytes, no_bytes zs over) (simp (append_assoc, append-nil));
        }

-- the line of four numbers is that of no others
one_four : {xs : List ℕ} {v w : Numbers} → Says xs v.n v.k v.rank v.count → Says xs w.n w.k w.rank w.count → v ≡ w
one_four {v = v} {w} a b =
    let first = one_number 32 (omega arith) a.n_high b.n_high (sym (said a) ∙ said b) in
    let second = one_number 32 (omega arith) a.k_high b.k_high first.1 in
    let third = one_number 32 (omega arith) a.r_high b.r_high second.1 in
    let fourth = one_number 10 (omega arith) a.t_high b.t_high third.1 in
    λ i. record { n = first.0 i; k = second.0 i; rank = third.0 i; count = fourth.0 i }

-- two readings of one input are the same
pub one_line : (xs : List ℕ) (v w : Option Numbers) → Reads xs v → Reads xs w → v ≡ w
unfolding Reads
one_line xs (Some v) (Some w) a b = ap Some (one_four a b)
one_line xs (Some v) None a b = absurd (b _ _ _ _ a)
one_line xs None (Some w) a b = absurd (a _ _ _ _ b)
one_line xs None None a b = refl
