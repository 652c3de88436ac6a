-- What the making of a board that is lent promises leaves one answer: it is settled by n, k and the two buffers. Assumes nothing.
use Rattle.std.proofs.Common.{IfOk, Result, Ok, Err}
use mathlib.Core.Path.{◌≡◌, sym, ◌∙◌}
use mathlib.Core.List.{List}
use Prim.Native.Nat.{ℕ}
use Rattle.sizes.specs.declared.Refusal.{Refusal}
use Rattle.sizes.specs.Refusal.{checked}
use Rattle.sizes.proofs.Made.{same_sizes}
use Rattle.arrangement.specs.Check.{buffers_verdict}
use Rattle.board.specs.declared.lent.Board.{Board}

pub record BoardLent (n k : ℕ) (cs fs : List ℕ) (r : Result Board Refusal) : Type 0 where
  pub verdict : checked r ≡ buffers_verdict n k cs 1 fs
  pub sizes : IfOk r (λ made. (made.sizes.n ≡ n) × (made.sizes.k ≡ k))
  pub rows : IfOk r (λ made. (made.counters.now ≡ cs) × (made.pointers.now ≡ fs))

-- two answers that keep that promise are the same refusal, or have the same sizes and buffers
abbrev pub BoardsAlike : Result Board Refusal → Result Board Refusal → Type 0
BoardsAlike (Ok a) (Ok b) = (a.sizes ≡ b.sizes) × (a.counters.now ≡ b.counters.now) × (a.pointers.now ≡ b.pointers.now)
BoardsAlike (Err a) (Err b) = a ≡ b
BoardsAlike r s = ⊥

pub one_board_lent : {n k : ℕ} {cs fs : List ℕ} (r s : Result Board Refusal) → BoardLent n k cs fs r → BoardLent n k cs fs s → BoardsAlike r s
one_board_lent (Ok a) (Ok b) p q =
    (same_sizes (p.sizes.0 ∙ sym q.sizes.0) (p.sizes.1 ∙ sym q.sizes.1), p.rows.0 ∙ sym q.rows.0, p.rows.1 ∙ sym q.rows.1)
one_board_lent (Ok a) (Err b) p q = cc (p.verdict, q.verdict)
one_board_lent (Err a) (Ok b) p q = cc (p.verdict, q.verdict)
one_board_lent (Err a) (Err b) p q = cc (p.verdict, q.verdict)
