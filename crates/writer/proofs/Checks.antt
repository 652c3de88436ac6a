-- What the check of four lists and a buffer says where it is Fine: the lists are of one length, each stretch may stand in a book, and
-- there is room for the book. And where all that holds, nothing is refused. Assumes nothing.
use Prim.Native.Nat.{ℕ, ◌*◌, ◌/◌, ◌%◌, ◌≤◌}
use mathlib.Core.Path.{◌≡◌, sym, ◌∙◌}
use mathlib.Core.Bool.{not}
use mathlib.Core.List.{List, [], ◌++◌}
use native.Mathlib.Omega.{arith}
use lib.Dec.{eqb}
use lib.ListN.{length, drop}
use borrow.Author.Tests.{ltb-false, le-ltb, lt-leb}
use Rattle.rows.proofs.Cases.{by_eq, inside, in_range}
use Rattle.std.proofs.Common.{Result}
use Rattle.sizes.specs.declared.Fault.TheVariants.{Length, Rank, Format, Entry}
use Rattle.sizes.specs.declared.Refusal.{Refusal}
use Rattle.sizes.specs.Refusal.{Verdict, fine, first}
use Rattle.sizes.specs.Outcome.{outcome, Does}
use Rattle.sizes.specs.Sizes.{weight}
use Rattle.sizes.proofs.Refusals.{both_fine, no_fault, faultless, last_faultless, Small, small_first, small_if}
use Rattle.sizes.proofs.Weights.{not_refused}
use Rattle.arrangement.specs.Check.{length_verdict}
use Rattle.arrangement.proofs.Checks.{wrong_length, right_length}
use Rattle.arrangement.proofs.Validity.{has_length}
use Rattle.order.specs.Check.{rank_verdict, start_verdict}
use Rattle.order.proofs.Checks.{start_asked, small_start}
use Rattle.book.specs.declared.format.Stretch.{Stretch}
use Rattle.book.specs.Format.{most_entries, Bookable}
use Rattle.book.specs.Read.{first_of, book_count_verdict}
use Rattle.book.proofs.Checks.{each_fine, fine_each, small_first_of}
use Rattle.writer.specs.Write.{Lists, stretches_in, stretch_at_lem, book_lent, lists_verdict, few_verdict, stretch_verdict, room_verdict, write_verdict, write_tells, write_leaves}
use Rattle.writer.specs.Asked.{OneLength, AllBookable}

-- ---- a list of so many numbers of eight bytes each

module _ (m e : ℕ) where
  pub words_other : (m / 8 ≡ e → ⊥) → m ≡ 8 * e → ⊥
  words_other ne is = ne (omega (arith, is))

  -- where it has so many, what is left over tells
  pub words_left : m / 8 ≡ e → not (eqb (m % 8) 0) ≡ not (eqb m (8 * e))
  words_left many =
      by_eq (m % 8) 0
      (λ none. right_length (m % 8) 0 none ∙ sym (right_length m (8 * e) (omega arith)))
      (λ some. wrong_length (m % 8) 0 some ∙ sym (wrong_length m (8 * e) (λ is. some (omega (arith, is)))))

-- ---- a stretch

pub bookable : (s : Stretch) → stretch_verdict s ≡ fine → Bookable s
unfolding stretch_verdict book_count_verdict
bookable s e =
    let both = both_fine (start_verdict s.n s.k s.rank) _ e in
    let start = start_asked s.n s.k s.rank both.0 in
    let range = inside 1 (weight s.n s.k) s.count (no_fault Entry _ both.1) in
    record { sizes = start.0; rank_high = start.1; count_low = range.0; count_high = range.1 }

pub bookable_fine : (s : Stretch) → Bookable s → stretch_verdict s ≡ fine
unfolding stretch_verdict start_verdict rank_verdict book_count_verdict first
bookable_fine s b =
    rw (← not_refused s.n s.k b.sizes, first)
    (rw (← last_faultless Rank (lt-leb (weight s.n s.k) s.rank b.rank_high), first)
    (sym (last_faultless Entry (in_range 1 (weight s.n s.k) s.count b.count_low b.count_high))))

-- ---- four lists and a buffer

-- how many they are
pub few_stretches : (e : ℕ) → few_verdict e ≡ fine → (1 ≤ e) × (e ≤ most_entries)
unfolding few_verdict
few_stretches e passed = inside 1 most_entries e (no_fault Format _ passed)

-- what is known where they are not refused
pub record Accepted (l : Lists) (buffer : List ℕ) : Type 0 where
  pub one_length : OneLength l
  pub all : AllBookable l
  pub some : 1 ≤ stretches_in l
  pub room : length (book_lent l) ≤ length buffer

pub one_length : (l : Lists) → lists_verdict l ≡ fine → stretches_in l ≤ most_entries → OneLength l
unfolding lists_verdict
one_length l e few =
    let one = both_fine (length_verdict (stretches_in l) l.ks) _ e in
    let two = both_fine (length_verdict (8 * stretches_in l) l.ranks) _ one.1 in
    record { few = few; ks_long = has_length _ _ one.0; ranks_long = has_length _ _ two.0; counts_long = has_length _ _ two.1 }

pub accepted : (l : Lists) (buffer : List ℕ) → write_verdict l buffer ≡ fine → Accepted l buffer
unfolding write_verdict room_verdict
accepted l buffer e =
    let lent = both_fine (lists_verdict l) _ e in
    let few = both_fine (few_verdict (stretches_in l)) _ lent.1 in
    let each = both_fine (first_of (λ i. stretch_verdict (stretch_at_lem l i)) (stretches_in l)) _ few.1 in
    let range = few_stretches (stretches_in l) few.0 in
    record {
      one_length = one_length l lent.0 range.1;
      all = record {
        bookable = λ i h. bookable (stretch_at_lem l i) (each_fine (λ j. stretch_verdict (stretch_at_lem l j)) (stretches_in l) each.0 i h);
      };
      some = range.0;
      room = ltb-false (length buffer) (length (book_lent l)) (no_fault Length _ each.1);
    }

pub accepted_fine : (l : Lists) (buffer : List ℕ) → Accepted l buffer → write_verdict l buffer ≡ fine
unfolding write_verdict lists_verdict length_verdict few_verdict room_verdict first
accepted_fine l buffer a =
    let o = a.one_length in
    sym
    (goes
    (faultless Length (right_length _ _ o.ks_long) (faultless Length (right_length _ _ o.ranks_long) (last_faultless Length (right_length _ _ o.counts_long))))
    (faultless Format (in_range 1 most_entries (stretches_in l) a.some o.few)
    (goes (sym (fine_each (λ i. stretch_verdict (stretch_at_lem l i)) (stretches_in l) (λ i h. bookable_fine (stretch_at_lem l i) (a.all.bookable i h))))
    (last_faultless Length (le-ltb (length buffer) (length (book_lent l)) a.room)))))
  where
    goes : {check w later : Verdict} → fine ≡ check → w ≡ later → w ≡ first check later
    goes fine last = unfold first in rw (← fine) last

-- ---- the call

-- its outcome is that of a call that writes, with no second buffer
pub does_write : (l : Lists) (buffer : List ℕ) {r : Result ℕ Refusal} {ys : List ℕ} →
    Does (outcome (write_verdict l buffer) (length (book_lent l)) buffer [] (book_lent l ++ drop (length (book_lent l)) buffer) []) r ys [] →
    (r ≡ write_tells l buffer) × (ys ≡ write_leaves l buffer)
unfolding outcome write_tells write_leaves
does_write l buffer does = (does.answer_is, does.one_is)

-- ---- numbers and places fit a byte each

small_stretch : (s : Stretch) → Small (stretch_verdict s)
unfolding stretch_verdict book_count_verdict
small_stretch s = small_first _ _ (small_start s.n s.k s.rank) (λ passed. small_if Entry _)

pub small_write : (l : Lists) (buffer : List ℕ) → Small (write_verdict l buffer)
unfolding write_verdict lists_verdict length_verdict few_verdict room_verdict
small_write l buffer =
    small_first _ _
    (small_first _ _ (small_if Length _) (λ ks. small_first _ _ (small_if Length _) (λ ranks. small_if Length _)))
    (λ lent. small_first _ _ (small_if Format _)
    (λ few. small_first _ _
    (small_first_of _ _ (few_stretches (stretches_in l) few).1 (λ i h. small_stretch (stretch_at_lem l i)))
    (λ each. small_if Length _)))
