-- Each call from Rattle that has no `requires` leaves one answer. Most promise an equation with a total function of what came in;
-- the readings of a board and of the listing's input are relations, with one answer by their own theorems, and so is the making of a
-- type that holds what has been checked. What a stream takes isn't settled by what came in, so the calls of `streams` and `print` have
-- no such lemma. Assumes nothing.
use Rattle.std.proofs.Common.{Option, Result}
use Rattle.std.specs.Result.{is_err}
use Prim.Native.Nat.{ℕ, suc, ◌-◌}
use mathlib.Core.Path.{◌≡◌, sym, ◌∙◌}
use mathlib.Core.Bool.{Bool}
use mathlib.Core.List.{List}
use Rattle.rows.specs.Copy.{blank}
use Rattle.rows.specs.Row.{at, front}
use Rattle.rows.specs.Search.{outside}
use Rattle.sizes.specs.declared.Fault.{Fault}
use Rattle.sizes.specs.declared.Refusal.{Refusal}
use Rattle.sizes.specs.Refusal.{Verdict, fault_number, refused_if}
use Rattle.sizes.specs.Outcome.{Does}
use Rattle.sizes.specs.Sizes.{sizes_verdict, weight}
use Rattle.sizes.specs.declared.permitted.Sizes.{Sizes}
use Rattle.sizes.proofs.Made.{Made as SizesMade, one_made as one_made_sizes}
use Rattle.sizes.proofs.Outcomes.{one_done}
use Rattle.arrangement.specs.Check.{lent_verdict}
use Rattle.arrangement.specs.declared.lent.Arrangement.{Arrangement}
use Rattle.arrangement.proofs.Arrangements.{Lent, Alike, one_lent}
use Rattle.flip.specs.Flip.{flip_length_verdict, flip_verdict, flip_leaves}
use Rattle.order.specs.Check.{start_verdict}
use Rattle.order.specs.Rank.{rank}
use Rattle.rank.specs.declared.start.Start.{Start}
use Rattle.rank.proofs.Starts.{Started, one_started}
use Rattle.unrank.specs.Unrank.{unrank_leaves}
use Rattle.look.specs.Look.{look, next_leaves}
use Rattle.board.specs.Board.{place, lowest_digit_lem, counter, pointer, board_leaves}
use Rattle.board.specs.declared.lent.Board.{Board}
use Rattle.board.proofs.Boards.{BoardLent, BoardsAlike, one_board_lent}
use Rattle.board.specs.Read.{Reads as ReadsBoard}
use Rattle.board.proofs.Readings.{one_reading}
use Rattle.step.specs.Step.{lent_step_verdict}
use Rattle.stretch.specs.Stretch.{stretch_verdict}
use Rattle.stretch.specs.Pair.{pair_verdict}
use Rattle.walk.specs.declared.hand.Walk.{Walk}
use Rattle.walk.specs.declared.hand.Kept.{Kept}
use Rattle.walk.specs.declared.hand.Moved.{Moved}
use Rattle.walk.specs.Hand.{walk_verdict, walk_flip_verdict, makes, tells_rank, tells_flip, flips, moves_on}
use Rattle.line.specs.Line.{Reads, line_long}
use Rattle.line.specs.declared.Numbers.{Numbers}
use Rattle.line.proofs.Readings.{one_line}
use Rattle.book.specs.Format.{format_one}
use Rattle.book.specs.Read.{n_of, k_of, count_of, rank_of, book_count_verdict, book_verdict, asked_verdict, lent_entry_verdict}
use Rattle.entry.specs.Entry.{entry_leaves}
use Rattle.entry.specs.declared.asked.Entry.{Entry}
use Rattle.entry.proofs.Entries.{Made as EntryMade, Alike as EntriesAlike, one_entry}
use Rattle.writer.specs.Write.{Lists, write_verdict, write_tells, write_leaves}

-- two answers that equal the same are equal
one_answer : {A : Type 0} {x r s : A} → r ≡ x → s ≡ x → r ≡ s
one_answer p q = p ∙ sym q

-- ---- the checks

-- whether a verdict refuses is the library's `is_err` of it
pub one_refuses : (v : Verdict) {r s : Bool} → r ≡ is_err v → s ≡ is_err v → r ≡ s
one_refuses v p q = one_answer p q

pub one_number_of : (fault : Fault) {r s : ℕ} → r ≡ fault_number fault → s ≡ fault_number fault → r ≡ s
one_number_of fault p q = one_answer p q

pub one_outside : (low high x : ℕ) {r s : Bool} → r ≡ outside low high x → s ≡ outside low high x → r ≡ s
one_outside low high x p q = one_answer p q

module _ {r s : Verdict} where
  pub one_refused : (fault : Fault) (there : Bool) → r ≡ refused_if fault there → s ≡ refused_if fault there → r ≡ s
  one_refused fault there p q = one_answer p q

  pub one_sizes : (n k : ℕ) → r ≡ sizes_verdict n k → s ≡ sizes_verdict n k → r ≡ s
  one_sizes n k p q = one_answer p q

  pub one_arrangement : (n k : ℕ) (ms ss : List ℕ) → r ≡ lent_verdict n k ms ss → s ≡ lent_verdict n k ms ss → r ≡ s
  one_arrangement n k ms ss p q = one_answer p q

  pub one_length_check : (n j : ℕ) → r ≡ flip_length_verdict n j → s ≡ flip_length_verdict n j → r ≡ s
  one_length_check n j p q = one_answer p q

  pub one_flip_check : (n k j : ℕ) (ms ss : List ℕ) → r ≡ flip_verdict n k j ms ss → s ≡ flip_verdict n k j ms ss → r ≡ s
  one_flip_check n k j ms ss p q = one_answer p q

  pub one_start : (n k rank : ℕ) → r ≡ start_verdict n k rank → s ≡ start_verdict n k rank → r ≡ s
  one_start n k rank p q = one_answer p q

  pub one_step_check : (n k : ℕ) (cs fs : List ℕ) → r ≡ lent_step_verdict n k cs fs → s ≡ lent_step_verdict n k cs fs → r ≡ s
  one_step_check n k cs fs p q = one_answer p q

  pub one_stretch : (n k rank t : ℕ) → r ≡ stretch_verdict n k rank t → s ≡ stretch_verdict n k rank t → r ≡ s
  one_stretch n k rank t p q = one_answer p q

  pub one_pair : (n k rank t v c w e : ℕ) → r ≡ pair_verdict n k rank t v c w e → s ≡ pair_verdict n k rank t v c w e → r ≡ s
  one_pair n k rank t v c w e p q = one_answer p q

  pub one_book : (book : List ℕ) → r ≡ book_verdict format_one book → s ≡ book_verdict format_one book → r ≡ s
  one_book book p q = one_answer p q

  pub one_asked : (book : List ℕ) (entry : ℕ) → r ≡ asked_verdict format_one book entry → s ≡ asked_verdict format_one book entry → r ≡ s
  one_asked book entry p q = one_answer p q

  pub one_lent_entry : (book : List ℕ) (entry : ℕ) (ms ss : List ℕ) → r ≡ lent_entry_verdict format_one book entry ms ss → s ≡ lent_entry_verdict format_one book entry ms ss → r ≡ s
  one_lent_entry book entry ms ss p q = one_answer p q

  pub one_write_check : (l : Lists) (buffer : List ℕ) → r ≡ write_verdict l buffer → s ≡ write_verdict l buffer → r ≡ s
  one_write_check l buffer p q = one_answer p q

  pub one_walk_check : (w : Walk) → r ≡ walk_verdict w → s ≡ walk_verdict w → r ≡ s
  one_walk_check w p q = one_answer p q

  pub one_walk_flip_check : (w : Walk) (j : ℕ) → r ≡ walk_flip_verdict w j → s ≡ walk_flip_verdict w j → r ≡ s
  one_walk_flip_check w j p q = one_answer p q

-- ---- a call that writes one buffer, of which a or b is the content at the end

pub one_lent_book : (l : Lists) (buffer : List ℕ) {r s : Result ℕ Refusal} {a b : List ℕ} → (r ≡ write_tells l buffer) × (a ≡ write_leaves l buffer) → (s ≡ write_tells l buffer) × (b ≡ write_leaves l buffer) → (r ≡ s) × (a ≡ b)
one_lent_book l buffer p q = (one_answer p.0 q.0, one_answer p.1 q.1)

-- ---- calls that write two buffers, of which a and b, or c and d, are the contents at the end

module _ {r s : Verdict} {a b c d : List ℕ} where
  pub one_lent_flip : (n k j : ℕ) (ms ss : List ℕ) → Does (flip_leaves n k j ms ss) r a b → Does (flip_leaves n k j ms ss) s c d → (r ≡ s) × (a ≡ c) × (b ≡ d)
  one_lent_flip n k j ms ss p q = one_done p q

  pub one_lent_unrank : (n k rank : ℕ) (ms ss : List ℕ) → Does (unrank_leaves n k rank ms ss) r a b → Does (unrank_leaves n k rank ms ss) s c d → (r ≡ s) × (a ≡ c) × (b ≡ d)
  one_lent_unrank n k rank ms ss p q = one_done p q

  pub one_lent_board : (n k rank : ℕ) (cs fs : List ℕ) → Does (board_leaves n k rank cs fs) r a b → Does (board_leaves n k rank cs fs) s c d → (r ≡ s) × (a ≡ c) × (b ≡ d)
  one_lent_board n k rank cs fs p q = one_done p q

module _ {r s : Result ℕ Refusal} {a b c d : List ℕ} where
  pub one_lent_next : (n k : ℕ) (ms ss : List ℕ) → Does (next_leaves n k ms ss) r a b → Does (next_leaves n k ms ss) s c d → (r ≡ s) × (a ≡ c) × (b ≡ d)
  one_lent_next n k ms ss p q = one_done p q

  pub one_lent_reading : (book : List ℕ) (entry : ℕ) (ms ss : List ℕ) → Does (entry_leaves book entry ms ss) r a b → Does (entry_leaves book entry ms ss) s c d → (r ≡ s) × (a ≡ c) × (b ≡ d)
  one_lent_reading book entry ms ss p q = one_done p q

-- ---- the walk in hand

pub one_made : (n k rank : ℕ) {r s : Result Walk Kept} → r ≡ makes n k rank → s ≡ makes n k rank → r ≡ s
one_made n k rank p q = one_answer p q

pub one_told_rank : (w : Walk) {r s : Result ℕ Refusal} → r ≡ tells_rank w → s ≡ tells_rank w → r ≡ s
one_told_rank w p q = one_answer p q

pub one_told_flip : (w : Walk) {r s : Result ℕ Refusal} → r ≡ tells_flip w → s ≡ tells_flip w → r ≡ s
one_told_flip w p q = one_answer p q

pub one_flipped : (w : Walk) (j : ℕ) {r s : Result Walk Kept} → r ≡ flips w j → s ≡ flips w j → r ≡ s
one_flipped w j p q = one_answer p q

pub one_moved : (w : Walk) {r s : Result Moved Kept} → r ≡ moves_on w → s ≡ moves_on w → r ≡ s
one_moved w p q = one_answer p q

-- ---- the relations

pub one_board_reading : (n k : ℕ) (cs fs : List ℕ) (r s : Result ℕ Refusal) → ReadsBoard n k cs fs r → ReadsBoard n k cs fs s → r ≡ s
one_board_reading n k cs fs r s p q = one_reading n k cs fs r s p q

pub one_input : (xs : List ℕ) (r s : Option Numbers) → Reads xs r → Reads xs s → r ≡ s
one_input xs r s p q = one_line xs r s p q

-- ---- the making of a type that holds what has been checked

pub one_sizes_made : {n k : ℕ} (r s : Result Sizes Refusal) → SizesMade n k r → SizesMade n k s → r ≡ s
one_sizes_made r s p q = one_made_sizes r s p q

pub one_arrangement_lent : {n k : ℕ} {ms ss : List ℕ} (r s : Result Arrangement Refusal) → Lent n k ms ss r → Lent n k ms ss s → Alike r s
one_arrangement_lent r s p q = one_lent r s p q

pub one_start_made : {n k rank : ℕ} (r s : Result Start Refusal) → Started n k rank r → Started n k rank s → r ≡ s
one_start_made r s p q = one_started r s p q

pub one_board : {n k : ℕ} {cs fs : List ℕ} (r s : Result Board Refusal) → BoardLent n k cs fs r → BoardLent n k cs fs s → BoardsAlike r s
one_board r s p q = one_board_lent r s p q

pub one_entry_made : {book : List ℕ} {entry : ℕ} (r s : Result Entry Refusal) → EntryMade book entry r → EntryMade book entry s → EntriesAlike r s
one_entry_made r s p q = one_entry r s p q

-- ---- and what is asked of it

pub one_total : (sizes : Sizes) {r s : ℕ} → r ≡ weight sizes.n sizes.k → s ≡ weight sizes.n sizes.k → r ≡ s
one_total sizes p q = one_answer p q

pub one_count_check : (sizes : Sizes) (count : ℕ) {r s : Verdict} → r ≡ book_count_verdict sizes.n sizes.k count →
    s ≡ book_count_verdict sizes.n sizes.k count → r ≡ s
one_count_check sizes count p q = one_answer p q

module _ (a : Arrangement) {r s : ℕ} where
  pub one_rank : r ≡ rank a.sizes.n a.sizes.k (at a.modules.now) (at a.settings.now) →
      s ≡ rank a.sizes.n a.sizes.k (at a.modules.now) (at a.settings.now) → r ≡ s
  one_rank p q = one_answer p q

  pub one_look : r ≡ look a.sizes.n a.sizes.k (at a.modules.now) (at a.settings.now) →
      s ≡ look a.sizes.n a.sizes.k (at a.modules.now) (at a.settings.now) → r ≡ s
  one_look p q = one_answer p q

pub one_lowest_digit : (k : ℕ) {r s : ℕ} → r ≡ lowest_digit_lem k → s ≡ lowest_digit_lem k → r ≡ s
one_lowest_digit k p q = one_answer p q

module _ (sizes : Sizes) (digits : List ℕ) {r s : List ℕ} where
  pub one_counters : r ≡ front (λ i. counter sizes.k (place digits) (suc i)) sizes.n blank →
      s ≡ front (λ i. counter sizes.k (place digits) (suc i)) sizes.n blank → r ≡ s
  one_counters p q = one_answer p q

  pub one_pointers : r ≡ front (λ i. pointer sizes.n sizes.k (place digits) (suc i)) (suc sizes.n) blank →
      s ≡ front (λ i. pointer sizes.n sizes.k (place digits) (suc i)) (suc sizes.n) blank → r ≡ s
  one_pointers p q = one_answer p q

pub one_line_end : (input : List ℕ) {r s : ℕ} → r ≡ line_long input → s ≡ line_long input → r ≡ s
one_line_end input p q = one_answer p q

module _ (e : Entry) {r s : ℕ} where
  pub one_entry_slots : r ≡ n_of e.book.now (e.number - 1) → s ≡ n_of e.book.now (e.number - 1) → r ≡ s
  one_entry_slots p q = one_answer p q

  pub one_entry_settings : r ≡ k_of e.book.now (e.number - 1) → s ≡ k_of e.book.now (e.number - 1) → r ≡ s
  one_entry_settings p q = one_answer p q

  pub one_entry_count : r ≡ count_of e.book.now (e.number - 1) → s ≡ count_of e.book.now (e.number - 1) → r ≡ s
  one_entry_count p q = one_answer p q

  pub one_entry_rank : r ≡ rank_of format_one e.book.now (e.number - 1) → s ≡ rank_of format_one e.book.now (e.number - 1) → r ≡ s
  one_entry_rank p q = one_answer p q
