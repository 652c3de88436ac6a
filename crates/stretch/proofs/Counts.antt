-- The count by seats and counters. Arrangement i of a stretch is that of rank (r + i) mod T, and the next is made from it by the
-- flip that the board says; so the two seats stay those of v and w, and each turn of the loop counts one arrangement. Assumes
-- nothing.
use mathlib.Core.Path.{◌≡◌, refl, sym, ap, ◌∙◌}
use mathlib.Core.Bool.{Bool, cond}
use mathlib.Core.List.{List}
use lib.ListN.{length}
use Prim.Native.Nat.{ℕ, suc, ◌+◌, ◌%◌, ◌≤◌, ◌<◌}
use native.Mathlib.Nat.{mod-eq_of_lt, mod-add-mod, mod-lt}
use native.Mathlib.Numerals.{add-one}
use native.Mathlib.Omega.{arith}
use Rattle.rows.specs.Search.{if_lt}
use Rattle.rows.proofs.Cases.{by_test}
use Rattle.sizes.specs.Sizes.{weight}
use Rattle.sizes.proofs.Weights.{weight_pos}
use Rattle.flip.specs.Flip.{raised, source}
use Rattle.order.specs.Digits.{flip_out, next_rank}
use Rattle.order.proofs.Steps.{flip_high, next_module, next_setting_lem}
use Rattle.board.specs.Board.{IsBoard}
use Rattle.step.specs.Step.{step_flip, stepped_counters, stepped_pointers}
use Rattle.step.specs.Asked.{StepAsked}
use Rattle.board.proofs.Runs.{counters_long, pointers_long}
use Rattle.step.proofs.Steps.{step_board, step_fine, step_flip_lem}
use Rattle.stretch.specs.Stretch.{rank_at}
use Rattle.stretch.specs.Pair.{pair_count}
use Rattle.stretch.specs.Asked.{StretchAsked, SeatedAt, together}
use Rattle.stretch.proofs.Seats.{seat_turned, seat_ext, seats_together}

-- a seat in the arrangement of the next rank is the seat turned
seat_next : (n k q : ℕ) → 1 ≤ k → 1 ≤ n → q < weight n k → {v x s : ℕ} → SeatedAt n k q v x s →
    SeatedAt n k (next_rank n k q) v (source (flip_out n k q) x) (if_lt x (flip_out n k q) (raised k s) s)
seat_next n k q k_low n_low q_low seat =
    seat_ext (next_module n k q k_low n_low q_low) (next_setting_lem n k q k_low n_low q_low)
    (seat_turned (flip_out n k q) k_low (flip_high n k q k_low n_low q_low) seat)

-- ---- the ranks of a stretch

module _ (n k r : ℕ) where
  rank_first : r < weight n k → rank_at n k r 0 ≡ r
  unfolding rank_at
  rank_first l = ap (λ x. x % weight n k) (omega arith) ∙ mod-eq_of_lt l

  rank_next : (i : ℕ) → next_rank n k (rank_at n k r i) ≡ rank_at n k r (suc i)
  unfolding rank_at next_rank
  rank_next i = mod-add-mod _ _ _ ∙ ap (λ x. x % weight n k) (omega arith)

  rank_low : (i : ℕ) → 1 ≤ k → rank_at n k r i < weight n k
  unfolding rank_at
  rank_low i k_low = mod-lt _ (weight_pos n k k_low)

-- ---- the loop

-- i arrangements are counted; the board and the seats are those of the next
pub record Counted (n k r v c w e : ℕ) (cs fs : List ℕ) (x s y u count i : ℕ) : Type 0 where
  pub board : IsBoard n k (rank_at n k r i) cs fs
  pub first : SeatedAt n k (rank_at n k r i) v x s
  pub second : SeatedAt n k (rank_at n k r i) w y u
  pub count_is : count ≡ pair_count n k r i v c w e
  pub few : count ≤ i

pub counted_first : {n k r t v c w e : ℕ} {cs fs : List ℕ} {x s y u : ℕ} → StretchAsked n k r t → IsBoard n k r cs fs →
    SeatedAt n k r v x s → SeatedAt n k r w y u → Counted n k r v c w e cs fs x s y u 0 0
unfolding pair_count
counted_first {n} {k} {r} asked board first second =
    let e = rank_first n k r asked.rank in
    record { board = rw e board; first = rw e first; second = rw e second; count_is = refl; few = omega arith }

module _ {n k r t v c w e : ℕ} {cs fs : List ℕ} {x s y u count i : ℕ} (asked : StretchAsked n k r t) (done : Counted n k r v c w e cs fs x s y u count i) where
  here_low : rank_at n k r i < weight n k
  here_low = rank_low n k r i asked.sizes.k_low

  -- the board can be stepped
  pub step_asked : StepAsked n k cs fs
  step_asked = record {
    lent = record {
      sizes = asked.sizes;
      counters = ap length done.board.counters_are ∙ counters_long n k _;
      pointers = ap length done.board.pointers_are ∙ pointers_long n k _;
    };
    fine = sym (step_fine asked.sizes.k_low asked.sizes.n_low here_low done.board);
  }

  -- one more
  pub counted_on : {cs' fs' : List ℕ} {x' s' y' u' count' j : ℕ} {b : Bool} → b ≡ together n x s y u c e → count' ≡ count + cond b 1 0 →
      j ≡ step_flip n k fs → cs' ≡ stepped_counters n k cs fs → fs' ≡ stepped_pointers n k cs fs →
      (x' ≡ source j x) × (s' ≡ if_lt x j (raised k s) s) → (y' ≡ source j y) × (u' ≡ if_lt y j (raised k u) u) →
      Counted n k r v c w e cs' fs' x' s' y' u' count' (i + 1)
  unfolding pair_count
  counted_on {b} b_is count_is j_is cs_are fs_are first_is second_is =
      let sizes = asked.sizes in
      let q = rank_at n k r i in
      let flip = j_is ∙ step_flip_lem sizes.k_low sizes.n_low here_low done.board in
      let next = rank_next n k r i in
      rw add-one (record {
        board = rw (← next, cs_are, fs_are) (step_board sizes.k_low sizes.n_low here_low done.board);
        first = rw (← next, first_is.0, first_is.1, flip) (seat_next n k q sizes.k_low sizes.n_low here_low done.first);
        second = rw (← next, second_is.0, second_is.1, flip) (seat_next n k q sizes.k_low sizes.n_low here_low done.second);
        count_is = count_is ∙ rw (done.count_is, b_is, seats_together c e done.first done.second);
        few = by_test b (λ t. omega (arith, done.few, rw t at count_is)) (λ t. omega (arith, done.few, rw t at count_is));
      })
