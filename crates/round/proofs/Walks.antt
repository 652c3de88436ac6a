-- One walk, three ways. The flip by looking and the flip of the board are both the flip out of the rank, so each way makes the
-- flip that leads to the next rank, and t flips lead from rank r to (r + t) mod T. Ranks of valid arrangements are all numbers
-- below T, each once; so T flips meet each arrangement once and come back. Assumes nothing.
use Rattle.std.proofs.Common.{Result, Ok}
use mathlib.Core.Path.{◌≡◌, sym, ap, ◌∙◌}
use mathlib.Core.Bool.{true}
use mathlib.Core.Logic.{◌↔◌}
use mathlib.Core.List.{List}
use Prim.Native.Nat.{ℕ, zero, suc, ◌+◌, ◌-◌, ◌%◌, ◌≤◌, ◌<◌}
use native.Mathlib.Nat.{mod-eq_of_lt, mod-add-mod, add-mod-mod, add-mod_right}
use native.Mathlib.Omega.{arith}
use Rattle.rows.proofs.Cases.{by_lt}
use Rattle.sizes.specs.Sizes.{weight, Permitted}
use Rattle.flip.proofs.Flips.{flipped_valid}
use Rattle.order.specs.Digits.{flip_out, next_rank}
use Rattle.order.proofs.Ranks.{rank_ext, rank_lt, rank_once_module, rank_once_setting}
use Rattle.look.proofs.Looks.{look_is, look_rank, look_step}
use Rattle.step.specs.Step.{closes, step_flip, stepped_counters, stepped_pointers}
use Rattle.board.specs.Read.{Reads}
use Rattle.sizes.specs.declared.Refusal.{Refusal}
use Rattle.step.proofs.Steps.{step_board, step_flip_lem, step_closes}
use Rattle.board.proofs.Readings.{one_reading, board_read}
use Rattle.round.specs.Walk.{Arrangement, Same, ValidArrangement, rank_of, look_at, flipped, walked, InHand}

-- arrangements of one rank are the same
pub same_rank : {n k : ℕ} {A B : Arrangement} → ValidArrangement n k A → ValidArrangement n k B → rank_of n k A ≡ rank_of n k B → Same n A B
same_rank a b e = record { modules = rank_once_module a b e; settings = rank_once_setting a b e }

module _ (n k : ℕ) (k_low : 1 ≤ k) (n_low : 1 ≤ n) where
  -- ---- the walk

  -- one flip
  pub next_valid : (A : Arrangement) → ValidArrangement n k A → ValidArrangement n k (flipped k (look_at n k A) A)
  unfolding flipped
  next_valid A ok = flipped_valid k_low (look_is n k _ _ n_low).most ok

  pub next_rank_lem : (A : Arrangement) → ValidArrangement n k A → rank_of n k (flipped k (look_at n k A) A) ≡ next_rank n k (rank_of n k A)
  unfolding flipped
  next_rank_lem A ok = look_step n k _ _ ok k_low n_low

  module _ (A : Arrangement) (ok : ValidArrangement n k A) where
    pub walk_valid : (t : ℕ) → ValidArrangement n k (walked n k t A)
    unfolding walked
    walk_valid zero = ok
    walk_valid (suc t) = next_valid (walked n k t A) (walk_valid t)

    -- t flips lead from rank r to rank (r + t) mod T
    pub walk_rank_lem : (t : ℕ) → rank_of n k (walked n k t A) ≡ (rank_of n k A + t) % weight n k
    unfolding walked next_rank
    walk_rank_lem zero = sym (ap (λ x. x % weight n k) (omega arith) ∙ mod-eq_of_lt (rank_lt n k _ _ ok))
    walk_rank_lem (suc t) =
        next_rank_lem (walked n k t A) (walk_valid t) ∙ ap (λ x. (x + 1) % weight n k) (walk_rank_lem t) ∙ mod-add-mod _ _ _ ∙ ap (λ x. x % weight n k) (omega arith)

    -- T flips close the round
    pub walk_closes : Same n (walked n k (weight n k) A) A
    walk_closes = same_rank (walk_valid _) ok (walk_rank_lem (weight n k) ∙ add-mod_right _ _ ∙ mod-eq_of_lt (rank_lt n k _ _ ok))

    -- each arrangement is met
    pub walk_meets : (B : Arrangement) → ValidArrangement n k B → Same n (walked n k ((rank_of n k B + (weight n k - rank_of n k A)) % weight n k) A) B
    walk_meets B there = same_rank (walk_valid _) there (walk_rank_lem _ ∙ lands ∙ mod-eq_of_lt (rank_lt n k _ _ there))
      where
        lands : (rank_of n k A + (rank_of n k B + (weight n k - rank_of n k A)) % weight n k) % weight n k ≡ rank_of n k B % weight n k
        lands = add-mod-mod _ _ _ ∙ ap (λ x. x % weight n k) (omega (arith, rank_lt n k _ _ ok)) ∙ add-mod_right _ _

    -- within T flips, no arrangement is met twice
    pub walk_once : (t u : ℕ) → t < weight n k → u < weight n k → Same n (walked n k t A) (walked n k u A) → t ≡ u
    walk_once t u a b s =
        apart (rank_lt n k _ _ ok) a b (sym (walk_rank_lem t) ∙ rank_ext n k _ _ _ _ s.modules s.settings ∙ walk_rank_lem u)
      where
        -- a sum below 2 T, modulo T
        wrap : (w x : ℕ) → x < w + w → (x < w → x % w ≡ x) × (w ≤ x → x % w + w ≡ x)
        wrap w x l = (λ h. mod-eq_of_lt h, λ h. ap (λ y. y % w + w) {x = x} {y = (x - w) + w} (omega arith) ∙ ap (λ y. y + w) (add-mod_right (x - w) w ∙ mod-eq_of_lt (omega arith)) ∙ omega arith)

        apart : {w r x y : ℕ} → r < w → x < w → y < w → (r + x) % w ≡ (r + y) % w → x ≡ y
        apart {w} {r} {x} {y} hr hx hy e =
            by_lt (r + x) w
            (λ p. by_lt (r + y) w
            (λ q. omega (arith, (wrap w (r + x) (omega arith)).0 p, (wrap w (r + y) (omega arith)).0 q))
            (λ q. omega (arith, (wrap w (r + x) (omega arith)).0 p, (wrap w (r + y) (omega arith)).1 q)))
            (λ p. by_lt (r + y) w
            (λ q. omega (arith, (wrap w (r + x) (omega arith)).1 p, (wrap w (r + y) (omega arith)).0 q))
            (λ q. omega (arith, (wrap w (r + x) (omega arith)).1 p, (wrap w (r + y) (omega arith)).1 q)))

  -- ---- the three ways

  module _ {r : ℕ} {A : Arrangement} {cs fs : List ℕ} (here : InHand n k r A cs fs) where
    rank_here : r < weight n k
    rank_here = rw (← here.number) (rank_lt n k _ _ here.valid)

    -- the three flips are equal
    pub look_flip : look_at n k A ≡ flip_out n k r
    look_flip = look_rank n k _ _ here.valid k_low n_low ∙ ap (flip_out n k) here.number

    pub board_flip : step_flip n k fs ≡ flip_out n k r
    board_flip = step_flip_lem k_low n_low rank_here here.board

    -- and whichever of them is made, with the step of the board, all three ways stand at the next rank: so a walk handed over from
    -- one way to another stays the same walk
    pub one_walk : InHand n k (next_rank n k r) (flipped k (flip_out n k r) A) (stepped_counters n k cs fs) (stepped_pointers n k cs fs)
    one_walk = record {
      valid = rw (← look_flip) (next_valid A here.valid);
      number = rw (← look_flip) (next_rank_lem A here.valid ∙ ap (next_rank n k) here.number);
      board = step_board k_low n_low rank_here here.board;
    }

    -- the board says that the round closed exactly where the next rank is 0
    pub board_closes : (closes n k fs ≡ true) ↔ (next_rank n k r ≡ 0)
    board_closes = step_closes k_low n_low rank_here here.board

    -- and the number is read off the board, so that it can be handed over from there, too
    pub board_number : Permitted n k → (w : Result ℕ Refusal) → Reads n k cs fs w → w ≡ Ok r
    board_number sizes w reads = one_reading n k cs fs w (Ok r) reads (board_read sizes rank_here here.board)
