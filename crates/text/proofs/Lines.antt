-- A line is written by its parts, one behind the other. The lengths of the lines are sums of those of their numbers. Assumes
-- nothing.
use mathlib.Core.Path.{◌≡◌, refl, sym, ap, ◌∙◌}
use mathlib.Core.List.{List, [], ◌∷◌, ◌++◌, append_assoc, append-nil}
use Prim.Native.Nat.{ℕ, zero, suc, ◌+◌, ◌*◌, ◌%◌, ◌≤◌, ◌<◌}
use native.Mathlib.Numerals.{add-one}
use native.Mathlib.Omega.{arith}
use lib.ListN.{length, get_or, drop, length-append}
use mir.Val.{Fits}
use mir.Syntax.{w8}
use Rattle.rows.specs.Row.{at}
use Rattle.line.specs.Decimal.{most, decimal, ended, numbers_line}
use Rattle.text.specs.Text.{walk_word, next_word, refused_word, head_line, slot, slots, slot_line, next_line, refused_line, refused_at_line, entry_line, line_most}
use Rattle.std.specs.Fmt as std
use Rattle.std.proofs.lemmas.Fmt.{decimal_digit, decimal_step}
use Rattle.line.proofs.Decimals.{by_digits, decimal_one, decimal_more, long_most, long_byte}

-- ---- one behind the other

-- a text, and another behind it
pub joined : (xs text more : List ℕ) {ys zs : List ℕ} → ys ≡ xs ++ text → zs ≡ ys ++ more → zs ≡ xs ++ (text ++ more)
joined xs text more first second = second ∙ ap (λ l. l ++ more) first ∙ append_assoc xs text more

-- what is behind a text is as much longer
pub longer : (xs text : List ℕ) {ys : List ℕ} → ys ≡ xs ++ text → length ys ≡ length xs + length text
longer xs text put = ap length put ∙ length-append xs text

-- ---- a number

-- the library's decimal is that of `Decimal`
pub same_decimal : (x : ℕ) → x ≤ most → std.decimal x ≡ decimal x
same_decimal = by_digits (λ x. std.decimal x ≡ decimal x)
    (λ x h. decimal_digit x h ∙ sym (decimal_one x h))
    (λ x h high before. decimal_step x h (omega arith) ∙ ap (λ ds. ds ++ (48 + x % 10) ∷ []) before ∙ sym (decimal_more x h high))

-- ---- an empty text

-- what was put into an empty text is all that is in it
pub all_put : {empty ys zs text : List ℕ} → empty ≡ [] → ys ≡ empty ++ text → zs ≡ ys → zs ≡ text
all_put {text = text} none put same = same ∙ put ∙ ap (λ l. l ++ text) none

-- ---- lengths

-- a row of bytes
pub bytes_fit : (xs : List ℕ) → ((i : ℕ) → Fits w8 (get_or xs i 0)) → (i : ℕ) → at xs i ≤ 255
bytes_fit xs fits i = omega (arith, fits i)

pub ended_long : (x end : ℕ) → length (ended x end) ≡ length (decimal x) + 1
unfolding ended
ended_long x end = length-append (decimal x) (end ∷ [])

pub ended_most : (x end : ℕ) → x ≤ most → length (ended x end) ≤ 21
ended_most x end h = omega (arith, ended_long x end, long_most x h)

pub slot_long : (v c : ℕ) → length (slot v c) ≡ length (decimal v) + length (decimal c) + 2
unfolding slot
slot_long v c = omega (arith, length-append (ended v 58) (decimal c), ended_long v 58)

pub slot_short : (v c : ℕ) → v ≤ 255 → c ≤ 255 → length (slot v c) ≤ 8
slot_short v c h g = omega (arith, slot_long v c, long_byte v h, long_byte c g)

pub slots_short : (n : ℕ) (M S : ℕ → ℕ) → ((i : ℕ) → i < n → M i ≤ 255) → ((i : ℕ) → i < n → S i ≤ 255) → length (slots n M S) ≤ 8 * n
unfolding slots
slots_short zero M S m s = omega arith
slots_short (suc n) M S m s =
    omega (
      arith,
      length-append (slots n M S) (slot (M n) (S n)),
      slot_short (M n) (S n) (m n (omega arith)) (s n (omega arith)),
      slots_short n M S (λ i h. m i (omega arith)) (λ i h. s i (omega arith)),
    )

-- no line of the listing has more than 202 bytes
pub numbers_short : (n k r t : ℕ) → n ≤ most → k ≤ most → r ≤ most → t ≤ most → length (numbers_line n k r t) ≤ 84
unfolding numbers_line
numbers_short n k r t hn hk hr ht =
    simp length-append (omega (arith, ended_most n 32 hn, ended_most k 32 hk, ended_most r 32 hr, ended_most t 10 ht))

pub head_short : (n k r t : ℕ) → n ≤ most → k ≤ most → r ≤ most → t ≤ most → length (head_line n k r t) ≤ line_most
unfolding head_line walk_word
head_short n k r t hn hk hr ht = omega (arith, length-append walk_word (numbers_line n k r t), numbers_short n k r t hn hk hr ht)

pub slot_line_short : (rank flip n : ℕ) (M S : ℕ → ℕ) → rank ≤ most → flip ≤ most → n ≤ 20 → ((i : ℕ) → i < n → M i ≤ 255) → ((i : ℕ) → i < n → S i ≤ 255) →
    length (slot_line rank flip n M S) ≤ line_most
unfolding slot_line
slot_line_short rank flip n M S hr hf hn m s =
    simp length-append (omega (arith, ended_most rank 32 hr, long_most flip hf, slots_short n M S m s))

-- ---- lines by their parts

pub head_put : (xs : List ℕ) {x1 x2 x3 x4 ys : List ℕ} (n k r t : ℕ) → x1 ≡ xs ++ walk_word → x2 ≡ x1 ++ ended n 32 → x3 ≡ x2 ++ ended k 32 → x4 ≡ x3 ++ ended r 32 → ys ≡ x4 ++ ended t 10 →
    ys ≡ xs ++ head_line n k r t
unfolding head_line numbers_line walk_word
head_put xs {x1} n k r t word first second third fourth =
    joined xs walk_word _ word (joined x1 (ended n 32 ++ ended k 32 ++ ended r 32) _ (joined x1 (ended n 32 ++ ended k 32) _ (joined x1 (ended n 32) _ first second) third) fourth)

pub slot_put : (xs : List ℕ) {x1 x2 ys : List ℕ} (v c : ℕ) → x1 ≡ xs ++ 32 ∷ [] → x2 ≡ x1 ++ ended v 58 → ys ≡ x2 ++ decimal c → ys ≡ xs ++ slot v c
unfolding slot
slot_put xs {x1} v c space colon setting = joined xs (32 ∷ []) _ space (joined x1 (ended v 58) _ colon setting)

pub slots_put : (xs : List ℕ) {x1 x2 x3 ys : List ℕ} (rank flip n : ℕ) (M S : ℕ → ℕ) → x1 ≡ xs ++ ended rank 32 → x2 ≡ x1 ++ decimal flip → x3 ≡ x2 ++ slots n M S → ys ≡ x3 ++ 10 ∷ [] →
    ys ≡ xs ++ slot_line rank flip n M S
unfolding slot_line
slots_put xs rank flip n M S first second third last =
    joined xs (ended rank 32 ++ decimal flip ++ slots n M S) _ (joined xs (ended rank 32 ++ decimal flip) _ (joined xs (ended rank 32) _ first second) third) last

pub entry_put : (xs : List ℕ) {x1 x2 ys : List ℕ} (n k count rank : ℕ) (M S : ℕ → ℕ) → x1 ≡ xs ++ ended n 32 → x2 ≡ x1 ++ ended k 32 → ys ≡ x2 ++ slot_line count rank n M S →
    ys ≡ xs ++ entry_line n k count rank M S
unfolding entry_line
entry_put xs n k count rank M S first second rest = joined xs (ended n 32 ++ ended k 32) _ (joined xs (ended n 32) _ first second) rest

pub next_put : (xs : List ℕ) {x1 ys : List ℕ} (rank : ℕ) → x1 ≡ xs ++ next_word → ys ≡ x1 ++ ended rank 10 → ys ≡ xs ++ next_line rank
unfolding next_line next_word
next_put xs rank word number = joined xs next_word _ word number

pub refused_put : (xs : List ℕ) {x1 ys : List ℕ} (number : ℕ) → x1 ≡ xs ++ refused_word → ys ≡ x1 ++ ended number 10 → ys ≡ xs ++ refused_line number
unfolding refused_line refused_word
refused_put xs number word last = joined xs refused_word _ word last

pub refused_at_put : (xs : List ℕ) {x1 x2 ys : List ℕ} (number place : ℕ) → x1 ≡ xs ++ refused_word → x2 ≡ x1 ++ ended number 32 → ys ≡ x2 ++ ended place 10 → ys ≡ xs ++ refused_at_line number place
unfolding refused_at_line refused_word
refused_at_put xs number place word first second = joined xs (refused_word ++ ended number 32) _ (joined xs refused_word _ word first) second

-- ---- slots one by one

-- the slots before place i are put, and the rest of both rows is to come
pub record Listed (xs ms ss ys rest_m rest_s : List ℕ) (i : ℕ) : Type 0 where
  pub high : i ≤ length ms
  pub modules : rest_m ≡ drop i ms
  pub settings : rest_s ≡ drop i ss
  pub put : ys ≡ xs ++ slots i (at ms) (at ss)

pub listed_first : (xs ms ss : List ℕ) {rest_m rest_s : List ℕ} → rest_m ≡ ms → rest_s ≡ ss → Listed xs ms ss xs rest_m rest_s 0
unfolding slots
listed_first xs ms ss m s = record { high = omega arith; modules = m; settings = s; put = sym (append-nil xs) }

no_cons : {x : ℕ} {xs : List ℕ} → x ∷ xs ≡ [] → ⊥
no_cons e = let z : ◌≡◌ {A = ℕ} 1 0 = ap (λ l. elim l [ [] ↦ 0 | x ∷ xs ↦ 1 ]) e in omega arith

-- what is next of a row
ahead : (xs : List ℕ) {rest : List ℕ} {x : ℕ} (i : ℕ) → x ∷ rest ≡ drop i xs → (i < length xs) × (at xs i ≡ x) × (rest ≡ drop (suc i) xs)
ahead [] zero e = absurd (no_cons e)
ahead [] (suc i) e = absurd (no_cons e)
ahead (y ∷ ys) zero e = (omega arith, sym (ap (λ l. get_or l 0 0) e), ap (drop 1) e)
ahead (y ∷ ys) (suc i) e = let so = ahead ys i e in (omega (arith, so.0), so.1, so.2)

module _ (xs ms ss : List ℕ) (modules : (i : ℕ) → at ms i ≤ 255) (settings : (i : ℕ) → at ss i ≤ 255) where
  -- there is room for 8 bytes for each slot that is left
  pub slot_room : {ys rest more rest_s : List ℕ} {v i : ℕ} → Listed xs ms ss ys rest rest_s i → rest ≡ v ∷ more → length ys + 8 ≤ length xs + 8 * length ms
  slot_room {i = i} so next =
      omega (arith, (ahead ms i (sym next ∙ so.modules)).0, longer xs (slots i (at ms) (at ss)) so.put, slots_short i (at ms) (at ss) (λ j l. modules j) (λ j l. settings j))

pub listed_on : (xs ms ss : List ℕ) {ys zs rest_m rest_s more_m more_s : List ℕ} {v c i : ℕ} → Listed xs ms ss ys rest_m rest_s i → rest_m ≡ v ∷ more_m → rest_s ≡ c ∷ more_s →
    zs ≡ ys ++ slot v c → Listed xs ms ss zs more_m more_s (i + 1)
unfolding slots
listed_on xs ms ss {v = v} {c} {i} so next_m next_s more =
    let m = ahead ms i (sym next_m ∙ so.modules) in
    let s = ahead ss i (sym next_s ∙ so.settings) in
    record {
      high = omega (arith, m.0);
      modules = rw add-one m.2;
      settings = rw add-one s.2;
      put = rw (add-one, slots, m.1, s.1) (joined xs (slots i (at ms) (at ss)) (slot v c) so.put more);
    }

-- ---- the line of an arrangement

-- it depends on the n slots alone
pub slots_ext : (n : ℕ) (M S M' S' : ℕ → ℕ) → ((i : ℕ) → i < n → M i ≡ M' i) → ((i : ℕ) → i < n → S i ≡ S' i) → slots n M S ≡ slots n M' S'
unfolding slots
slots_ext zero M S M' S' same_m same_s = refl
slots_ext (suc n) M S M' S' same_m same_s =
    rw (slots_ext n M S M' S' (λ i l. same_m i (omega arith)) (λ i l. same_s i (omega arith)), same_m n (omega arith), same_s n (omega arith))

pub slot_line_ext : (rank flip n : ℕ) {M S M' S' : ℕ → ℕ} → ((i : ℕ) → i < n → M i ≡ M' i) → ((i : ℕ) → i < n → S i ≡ S' i) →
    slot_line rank flip n M S ≡ slot_line rank flip n M' S'
unfolding slot_line
slot_line_ext rank flip n {M} {S} {M'} {S'} same_m same_s = rw (slots_ext n M S M' S' same_m same_s)

-- ---- the line of an entry

pub entry_line_ext : (k count rank : ℕ) {n m : ℕ} {M S M' S' : ℕ → ℕ} → n ≡ m → ((i : ℕ) → i < m → M i ≡ M' i) → ((i : ℕ) → i < m → S i ≡ S' i) →
    entry_line n k count rank M S ≡ entry_line m k count rank M' S'
unfolding entry_line
entry_line_ext k count rank {m = m} same same_m same_s = rw same (ap (λ line. ended m 32 ++ ended k 32 ++ line) (slot_line_ext count rank m same_m same_s))
