-- What is answered of any input, and what is to be printed, is one answer: each line of the input says one stretch or none, so the lists
-- that are taken say the same stretches, and what the writer makes of lists that are long enough it makes of their stretches alone. Assumes nothing.
use Rattle.std.proofs.Common.{Ok, Err, Result, Some, None}
use Prim.Native.Nat.{ℕ, zero, suc, ◌+◌, ◌*◌, ◌≤◌, ◌<◌}
use mathlib.Core.Path.{◌≡◌, refl, sym, ◌∙◌, ap, ap₂}
use mathlib.Core.List.{List, []}
use native.Mathlib.Omega.{arith}
use lib.ListN.{length}
use lib.Seq.{length-take-le, take-take, get_or-take}
use Rattle.rows.specs.Row.{at}
use Rattle.rows.proofs.Cases.{by_lt}
use Rattle.sizes.specs.declared.Refusal.{Refusal}
use Rattle.sizes.specs.Refusal.{Verdict}
use Rattle.sizes.specs.Outcome.{left}
use Rattle.arrangement.specs.Check.{length_verdict}
use Rattle.line.specs.Line.{Says, Reads, line_long}
use Rattle.line.specs.declared.Numbers.{Numbers}
use Rattle.line.proofs.Readings.{no_byte, bad_first, one_line}
use Rattle.book.specs.Format.{format_one}
use Rattle.book.specs.Read.{first_of}
use Rattle.book.proofs.Books.{book_ext}
use Rattle.writer.specs.Write.{Lists, stretches_in, word_at, stretch_at_lem, book_lent, lists_verdict, few_verdict, stretch_verdict, write_verdict}
use Rattle.book_write.specs.Lines.{behind, line_at, in_byte_lem, listed, Held, Taking, Failing, Takes, taken_verdict, taken_book, Answers, Shows}

-- the four lists as one
abbrev HeldIn : List ℕ → Lists → ℕ → Type 0
HeldIn xs l i = Held xs l.ns l.ks l.ranks l.counts i

abbrev TakingIn : List ℕ → Lists → ℕ → Type 0
TakingIn xs l m = Taking xs l.ns l.ks l.ranks l.counts m

abbrev FailingIn : List ℕ → Lists → ℕ → Type 0
FailingIn xs l line = Failing xs l.ns l.ks l.ranks l.counts line

abbrev TakesIn : List ℕ → Lists → Result ℕ Refusal → Type 0
TakesIn xs l t = Takes xs l.ns l.ks l.ranks l.counts t

abbrev listed_of : ℕ → Lists → Lists
listed_of m l = listed m l.ns l.ks l.ranks l.counts

-- ---- lines

-- behind the end there is no line
behind_over : (xs : List ℕ) (m i : ℕ) → m ≤ i → behind m xs ≡ [] → behind i xs ≡ []
unfolding behind line_long
behind_over xs m zero h over = let is : m ≡ 0 = omega arith in rw is at over
behind_over xs m (suc i) h over =
    by_lt i m (λ below. let is : m ≡ suc i = omega arith in rw is at over)
    (λ above. rw (behind_over xs m i (omega arith) over) refl)

nothing_said : {n k r t : ℕ} → Says [] n k r t → ⊥
unfolding Reads
nothing_said says = bad_first [] (no_byte [] 32 (omega arith) refl) _ _ _ _ says

over_unsaid : (xs : List ℕ) (i : ℕ) {n k r t : ℕ} → behind i xs ≡ [] → Says (line_at i xs) n k r t → ⊥
unfolding line_at line_long
over_unsaid xs i over says = nothing_said (rw over at says)

bad_unsaid : {xs : List ℕ} {n k r t : ℕ} → Reads xs None → Says xs n k r t → ⊥
unfolding Reads
bad_unsaid bad says = bad _ _ _ _ says

-- ---- the stretches of two takings of one input

module _ (xs : List ℕ) (l o : Lists) where
  abbrev numbers : (n k r t : ℕ) → Numbers
  numbers n k r t = record { n = n; k = k; rank = r; count = t }

  same_numbers : (i : ℕ) (a : HeldIn xs l i) (b : HeldIn xs o i) →
      numbers a.n a.k (word_at l.ranks i) (word_at l.counts i) ≡ numbers b.n b.k (word_at o.ranks i) (word_at o.counts i)
  unfolding Reads
  same_numbers i a b =
      let one = one_line (line_at i xs) (Some (numbers a.n a.k (word_at l.ranks i) (word_at l.counts i)))
      (Some (numbers b.n b.k (word_at o.ranks i) (word_at o.counts i))) a.says b.says in cc

  same_stretch : (i : ℕ) → HeldIn xs l i → HeldIn xs o i → stretch_at_lem l i ≡ stretch_at_lem o i
  unfolding stretch_at_lem
  same_stretch i a b =
      let one = same_numbers i a b in
      let n : at l.ns i ≡ at o.ns i = a.n_is ∙ ap (λ v. in_byte_lem v.n) one ∙ sym b.n_is in
      let k : at l.ks i ≡ at o.ks i = a.k_is ∙ ap (λ v. in_byte_lem v.k) one ∙ sym b.k_is in
      rw (n, k, ap (λ v. v.rank) one, ap (λ v. v.count) one) refl

-- stretch i is the same in the first m of a list
of_listed : (m : ℕ) (l : Lists) (i : ℕ) → i < m → stretch_at_lem (listed_of m l) i ≡ stretch_at_lem l i
unfolding stretch_at_lem word_at
of_listed m l i h =
    rw (get_or-take m l.ns i 0 h, get_or-take m l.ks i 0 h, take-take (8 * i + 8) (8 * m) l.ranks (omega arith), take-take (8 * i + 8) (8 * m) l.counts (omega arith)) refl

-- ---- what the writer makes of two lists of the same stretches

first_of_ext : (v w : ℕ → Verdict) (m : ℕ) → ((i : ℕ) → i < m → v i ≡ w i) → first_of v m ≡ first_of w m
unfolding first_of
first_of_ext v w zero same = refl
first_of_ext v w (suc m) same = rw (first_of_ext v w m (λ i h. same i (omega arith)), same m (omega arith)) refl

-- lists of the lengths for m stretches
record Long (l : Lists) (m : ℕ) : Type 0 where
  ns_long : length l.ns ≡ m
  ks_long : length l.ks ≡ m
  ranks_long : length l.ranks ≡ 8 * m
  counts_long : length l.counts ≡ 8 * m

long_listed : (xs : List ℕ) (l : Lists) (m : ℕ) → TakingIn xs l m → Long (listed_of m l) m
long_listed xs l m so = record {
  ns_long = length-take-le m l.ns so.ns_enough;
  ks_long = length-take-le m l.ks so.ks_enough;
  ranks_long = length-take-le (8 * m) l.ranks so.ranks_enough;
  counts_long = length-take-le (8 * m) l.counts so.counts_enough;
}

module _ (l o : Lists) (m : ℕ) (l_long : Long l m) (o_long : Long o m) (same : (i : ℕ) → i < m → stretch_at_lem l i ≡ stretch_at_lem o i) where
  same_lent : book_lent l ≡ book_lent o
  unfolding book_lent
  same_lent = rw (l_long.ns_long, o_long.ns_long) (book_ext format_one m (stretch_at_lem l) (stretch_at_lem o) same)

  same_lists : lists_verdict l ≡ lists_verdict o
  unfolding lists_verdict length_verdict
  same_lists = rw (l_long.ns_long, l_long.ks_long, l_long.ranks_long, l_long.counts_long, o_long.ns_long, o_long.ks_long, o_long.ranks_long, o_long.counts_long) refl

  same_stretches : first_of (λ i. stretch_verdict (stretch_at_lem l i)) (stretches_in l) ≡ first_of (λ i. stretch_verdict (stretch_at_lem o i)) (stretches_in o)
  same_stretches = rw (l_long.ns_long, o_long.ns_long) (first_of_ext _ _ m (λ i h. ap stretch_verdict (same i h)))

  same_verdict : (buffer : List ℕ) → write_verdict l buffer ≡ write_verdict o buffer
  unfolding write_verdict
  same_verdict buffer =
      let many : stretches_in l ≡ stretches_in o = l_long.ns_long ∙ sym o_long.ns_long in
      rw (same_lists, ap few_verdict many, same_stretches, same_lent) refl

-- ---- two takings of one input

module _ (xs : List ℕ) (l o : Lists) where
  -- none has fewer lines than another
  more_said : (m e : ℕ) → TakingIn xs l m → TakingIn xs o e → m < e → ⊥
  more_said m e a b h = let held = b.held m h in over_unsaid xs m (a.all (omega (arith, b.few))) held.says

  -- where all lines are taken, none is refused
  none_said : (m line : ℕ) → TakingIn xs l m → FailingIn xs o line → ⊥
  none_said m line a f =
      by_lt f.i m (λ h. let held = a.held f.i h in bad_unsaid f.bad held.says)
      (λ h.
      let over = behind_over xs m f.i h (a.all (omega (arith, f.few))) in
      let some : 1 ≤ length {A = ℕ} [] = rw over at f.some in omega (arith, some))

  -- and no line that says nothing stands before the one that is refused
  before_said : (m e : ℕ) (f : FailingIn xs l m) (g : FailingIn xs o e) → f.i < g.i → ⊥
  before_said m e f g h = let held = g.held f.i h in bad_unsaid f.bad held.says

module _ (xs : List ℕ) (l o : Lists) where
  one_count : (m e : ℕ) → TakingIn xs l m → TakingIn xs o e → m ≡ e
  one_count m e a b =
      by_lt m e (λ h. absurd (more_said xs l o m e a b h)) (λ g. by_lt e m (λ h. absurd (more_said xs o l e m b a h)) (λ h. omega arith))

  one_line_refused : (m e : ℕ) → FailingIn xs l m → FailingIn xs o e → m ≡ e
  one_line_refused m e f g =
      by_lt f.i g.i (λ h. absurd (before_said xs l o m e f g h))
      (λ n. by_lt g.i f.i (λ h. absurd (before_said xs o l e m g f h)) (λ h. omega (arith, f.is, g.is)))

  one_taken : (t u : Result ℕ Refusal) → TakesIn xs l t → TakesIn xs o u → t ≡ u
  unfolding Takes
  one_taken (Ok m) (Ok e) a b = ap Ok (one_count m e a b)
  one_taken (Ok m) (Err r) a b = absurd (none_said xs l o m _ a b.1)
  one_taken (Err r) (Ok m) a b = absurd (none_said xs o l m _ b a.1)
  one_taken (Err r) (Err s) a b =
      let place = one_line_refused _ _ a.1 b.1 in
      let fault = a.0 ∙ sym b.0 in ap Err (λ i. record { fault = fault i; place = place i })

  -- and what is made of it is one
  same_made : (t : Result ℕ Refusal) (before : List ℕ) → TakesIn xs l t → TakesIn xs o t →
      (taken_verdict t l before ≡ taken_verdict t o before) × (taken_book t l ≡ taken_book t o)
  unfolding Takes taken_verdict taken_book
  same_made (Err r) before a b = (refl, refl)
  same_made (Ok m) before a b =
      let same : (i : ℕ) → i < m → stretch_at_lem (listed_of m l) i ≡ stretch_at_lem (listed_of m o) i =
      λ i h. of_listed m l i h ∙ same_stretch xs l o i (a.held i h) (b.held i h) ∙ sym (of_listed m o i h) in
      let l_long = long_listed xs l m a in
      let o_long = long_listed xs o m b in
      (same_verdict _ _ m l_long o_long same before, same_lent _ _ m l_long o_long same)

  one_made : (t u : Result ℕ Refusal) (before : List ℕ) → TakesIn xs l t → TakesIn xs o u →
      (taken_verdict t l before ≡ taken_verdict u o before) × (taken_book t l ≡ taken_book u o)
  one_made t u before a b = let taken = one_taken t u a b in rw taken (same_made u before (rw taken at a) b)

-- ---- one answer

module _ {xs before : List ℕ} where
  pub one_answered : {r s : Result ℕ Refusal} {after other : List ℕ} → Answers xs before r after → Answers xs before s other → (r ≡ s) × (after ≡ other)
  one_answered a b =
      let made = one_made xs a.l b.l a.taken b.taken before a.takes b.takes in
      (a.answer_is ∙ rw (made.0, made.1) (sym b.answer_is), a.after_is ∙ rw (made.0, made.1) (sym b.after_is))

  pub one_shown : {v w : Verdict} {text other : List ℕ} → Shows xs before v text → Shows xs before w other → (v ≡ w) × (text ≡ other)
  one_shown a b =
      let made = one_made xs a.l b.l a.taken b.taken before a.takes b.takes in
      let verdict : _ ≡ _ = a.verdict_is ∙ made.0 ∙ sym b.verdict_is in
      (verdict, a.text_is ∙ ap₂ (λ v text. left v [] text) verdict made.1 ∙ sym b.text_is)
