-- Each call from C leaves one number, and one content of each buffer lent to it, for every input: two outcomes that both keep its
-- promise are equal. A promise is an equation with a total function of what came in, but for the two that read a whole board, which
-- rest on the theorem that no two ranks have one board. Assumes nothing.
use Prim.Native.Nat.{ℕ}
use mathlib.Core.Path.{◌≡◌}
use mathlib.Core.List.{List}
use Rattle.flip.specs.Flip.{flip_leaves}
use Rattle.unrank.specs.Unrank.{unrank_leaves}
use Rattle.look.specs.Look.{next_leaves}
use Rattle.board.specs.Board.{board_leaves}
use Rattle.board.specs.Read.{rank_read}
use Rattle.step.specs.Step.{step_leaves}
use Rattle.entry.specs.Entry.{entry_leaves}
use Rattle.writer.specs.Write.{Lists, write_tells, write_leaves}
use Rattle.limpet.specs.Answer.{Returns, Leaves, Writes, no_value, own_value}
use Rattle.limpet.specs.Calls.{round_returns, total_returns, check_returns, rank_value_returns, look_returns, ReadReturns, verdict_shown, pair_returns, book_count_returns, book_rank_returns}
use Rattle.limpet.proofs.Answers.{one_number, one_outcome, one_writing, one_read}

-- ---- calls that write nothing

module _ {r s : ℕ} where
  pub one_round : (n k : ℕ) → Returns (round_returns n k) r → Returns (round_returns n k) s → r ≡ s
  one_round n k p q = one_number p q

  pub one_round_total : (n k : ℕ) → Returns (total_returns n k) r → Returns (total_returns n k) s → r ≡ s
  one_round_total n k p q = one_number p q

  -- limpet_check, and limpet_rank
  pub one_check : (n k : ℕ) (ms ss : List ℕ) → Returns (check_returns n k ms ss) r → Returns (check_returns n k ms ss) s → r ≡ s
  one_check n k ms ss p q = one_number p q

  pub one_rank_value : (n k : ℕ) (ms ss : List ℕ) → Returns (rank_value_returns n k ms ss) r → Returns (rank_value_returns n k ms ss) s → r ≡ s
  one_rank_value n k ms ss p q = one_number p q

  pub one_look : (n k : ℕ) (ms ss : List ℕ) → Returns (look_returns n k ms ss) r → Returns (look_returns n k ms ss) s → r ≡ s
  one_look n k ms ss p q = one_number p q

  pub one_pair_count : (n k rank t v c w e : ℕ) → Returns (pair_returns n k rank t v c w e) r → Returns (pair_returns n k rank t v c w e) s → r ≡ s
  one_pair_count n k rank t v c w e p q = one_number p q

  pub one_book_count : (book : List ℕ) (entry : ℕ) → Returns (book_count_returns book entry) r → Returns (book_count_returns book entry) s → r ≡ s
  one_book_count book entry p q = one_number p q

  pub one_book_rank : (book : List ℕ) (entry : ℕ) → Returns (book_rank_returns book entry) r → Returns (book_rank_returns book entry) s → r ≡ s
  one_book_rank book entry p q = one_number p q

  -- the two whose promise is a relation
  pub one_board_read : (n k : ℕ) (cs fs : List ℕ) → ReadReturns verdict_shown n k cs fs r → ReadReturns verdict_shown n k cs fs s → r ≡ s
  one_board_read n k cs fs p q = one_read p q

  pub one_board_read_rank : (n k : ℕ) (cs fs : List ℕ) → ReadReturns rank_read n k cs fs r → ReadReturns rank_read n k cs fs s → r ≡ s
  one_board_read_rank n k cs fs p q = one_read p q

-- ---- a call that writes one buffer, of which a or b is the content at the end

pub one_book_write : (l : Lists) (buffer : List ℕ) {r s : ℕ} {a b : List ℕ} → Writes (write_tells l buffer) (write_leaves l buffer) r a → Writes (write_tells l buffer) (write_leaves l buffer) s b → (r ≡ s) × (a ≡ b)
one_book_write l buffer p q = one_writing p q

-- ---- calls that write two buffers, of which a and b, or c and d, are the contents at the end

module _ {r s : ℕ} {a b c d : List ℕ} where
  pub one_flip : (n k j : ℕ) (ms ss : List ℕ) → Leaves no_value (flip_leaves n k j ms ss) r a b → Leaves no_value (flip_leaves n k j ms ss) s c d → (r ≡ s) × (a ≡ c) × (b ≡ d)
  one_flip n k j ms ss p q = one_outcome p q

  pub one_unrank : (n k rank : ℕ) (ms ss : List ℕ) → Leaves no_value (unrank_leaves n k rank ms ss) r a b → Leaves no_value (unrank_leaves n k rank ms ss) s c d → (r ≡ s) × (a ≡ c) × (b ≡ d)
  one_unrank n k rank ms ss p q = one_outcome p q

  pub one_next : (n k : ℕ) (ms ss : List ℕ) → Leaves own_value (next_leaves n k ms ss) r a b → Leaves own_value (next_leaves n k ms ss) s c d → (r ≡ s) × (a ≡ c) × (b ≡ d)
  one_next n k ms ss p q = one_outcome p q

  pub one_board_write : (n k rank : ℕ) (cs fs : List ℕ) → Leaves no_value (board_leaves n k rank cs fs) r a b → Leaves no_value (board_leaves n k rank cs fs) s c d → (r ≡ s) × (a ≡ c) × (b ≡ d)
  one_board_write n k rank cs fs p q = one_outcome p q

  pub one_board_step : (n k : ℕ) (cs fs : List ℕ) → Leaves own_value (step_leaves n k cs fs) r a b → Leaves own_value (step_leaves n k cs fs) s c d → (r ≡ s) × (a ≡ c) × (b ≡ d)
  one_board_step n k cs fs p q = one_outcome p q

  pub one_book_read : (book : List ℕ) (entry : ℕ) (ms ss : List ℕ) → Leaves own_value (entry_leaves book entry ms ss) r a b → Leaves own_value (entry_leaves book entry ms ss) s c d → (r ≡ s) × (a ≡ c) × (b ≡ d)
  one_book_read book entry ms ss p q = one_outcome p q
