-- What each call from C that writes nothing returns, as a total function of what came in. Where a call has no value, its value is 0.
-- What a call leaves that writes is said on its floor: `flip_leaves`, `unrank_leaves`, `next_leaves`, `board_leaves`, `step_leaves`,
-- `entry_leaves`; and `write_tells` and `write_leaves`.
use Rattle.std.specs.Prelude.{ℕ, ◌-◌, ◌≡◌, List, Result}
use Rattle.rows.specs.Row.{at}
use Rattle.sizes.specs.declared.Refusal.{Refusal}
use Rattle.sizes.specs.Refusal.{unless_refused}
use Rattle.sizes.specs.Outcome.{answered}
use Rattle.sizes.specs.Sizes.{weight, sizes_verdict}
use Rattle.arrangement.specs.Check.{lent_verdict}
use Rattle.order.specs.Rank.{rank}
use Rattle.look.specs.Look.{look}
use Rattle.board.specs.Read.{Reads, verdict_of}
use Rattle.stretch.specs.Pair.{pair_verdict, pair_count}
use Rattle.book.specs.Format.{format_one}
use Rattle.book.specs.Read.{count_of, rank_of, asked_verdict}
use Rattle.limpet.specs.Answer.{answer_of, no_value, own_value, packed}

-- limpet_round: the check of n and k
unfoldable pub round_returns : ℕ → ℕ → ℕ
round_returns n k = packed (answer_of no_value (sizes_verdict n k))

-- limpet_round_total: T
unfoldable pub total_returns : ℕ → ℕ → ℕ
total_returns n k = unless_refused (sizes_verdict n k) (weight n k)

-- limpet_check, and limpet_rank: the check of an arrangement
unfoldable pub check_returns : ℕ → ℕ → List ℕ → List ℕ → ℕ
check_returns n k ms ss = packed (answer_of no_value (lent_verdict n k ms ss))

-- limpet_rank_value: the rank of an arrangement
unfoldable pub rank_value_returns : ℕ → ℕ → List ℕ → List ℕ → ℕ
rank_value_returns n k ms ss = unless_refused (lent_verdict n k ms ss) (rank n k (at ms) (at ss))

-- limpet_look: the length of the flip found by looking
unfoldable pub look_returns : ℕ → ℕ → List ℕ → List ℕ → ℕ
look_returns n k ms ss = packed (answer_of own_value (answered (lent_verdict n k ms ss) (look n k (at ms) (at ss))))

-- limpet_board_read and limpet_board_read_rank: what is shown of the reading of a board. 01 says of a reading what it must be, not
-- how it is found, so the promise is that there is one; that there is only one is `one_reading`
pub record ReadReturns (shown : Result ℕ Refusal → ℕ) (n k : ℕ) (cs fs : List ℕ) (r : ℕ) : Type 0 where
  pub reading : Result ℕ Refusal
  pub reads : Reads n k cs fs reading
  pub returned_is : r ≡ shown reading

-- limpet_board_read shows whether it was refused, and limpet_board_read_rank its rank, `rank_read`
unfoldable pub verdict_shown : Result ℕ Refusal → ℕ
verdict_shown reading = packed (answer_of no_value (verdict_of reading))

-- limpet_pair_count: in how many arrangements of the stretch v:c stands in some slot and w:e in the next
unfoldable pub pair_returns : ℕ → ℕ → ℕ → ℕ → ℕ → ℕ → ℕ → ℕ → ℕ
pair_returns n k r t v c w e = packed (answer_of own_value (answered (pair_verdict n k r t v c w e) (pair_count n k r t v c w e)))

-- limpet_book_count: the count of the entry asked for
unfoldable pub book_count_returns : List ℕ → ℕ → ℕ
book_count_returns xs entry = unless_refused (asked_verdict format_one xs entry) (count_of xs (entry - 1))

-- limpet_book_rank: the rank of its arrangement
unfoldable pub book_rank_returns : List ℕ → ℕ → ℕ
book_rank_returns xs entry = unless_refused (asked_verdict format_one xs entry) (rank_of format_one xs (entry - 1))
