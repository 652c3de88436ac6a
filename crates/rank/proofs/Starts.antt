-- The start that is made of n, k and a rank, or the refusal, is settled by them. Assumes nothing.
use Rattle.std.proofs.Common.{IfOk, Result, Ok, Err}
use Rattle.std.proofs.Math.Bridge.{le_prop}
use mathlib.Core.HLevel.{is_prop→PathP}
use mathlib.Core.Path.{◌≡◌, sym, ap, ◌∙◌}
use Prim.Native.Nat.{ℕ, ◌<◌}
use Rattle.sizes.specs.declared.Refusal.{Refusal}
use Rattle.sizes.specs.Refusal.{checked}
use Rattle.sizes.specs.Sizes.{weight}
use Rattle.sizes.proofs.Made.{same_sizes}
use Rattle.order.specs.Check.{start_verdict}
use Rattle.rank.specs.declared.start.Start.{Start}

-- starts of the same sizes and rank are the same
pub same_starts : {x y : Start} → x.sizes ≡ y.sizes → x.rank ≡ y.rank → x ≡ y
same_starts {x} {y} sizes_same rank_same = λ i. record {
  sizes = sizes_same i;
  rank = rank_same i;
  below = is_prop→PathP (λ j. rank_same j < weight (sizes_same j).n (sizes_same j).k) (λ j. le_prop) x.below y.below i;
}

-- what the making of a start promises
pub record Started (n k r : ℕ) (w : Result Start Refusal) : Type 0 where
  pub verdict : checked w ≡ start_verdict n k r
  pub start : IfOk w (λ start. (start.sizes.n ≡ n) × (start.sizes.k ≡ k) × (start.rank ≡ r))

pub one_started : {n k r : ℕ} (v w : Result Start Refusal) → Started n k r v → Started n k r w → v ≡ w
one_started (Ok x) (Ok y) p q =
    ap Ok (same_starts (same_sizes (p.start.0 ∙ sym q.start.0) (p.start.1 ∙ sym q.start.1)) (p.start.2 ∙ sym q.start.2))
one_started (Ok x) (Err b) p q = cc (p.verdict, q.verdict)
one_started (Err a) (Ok y) p q = cc (p.verdict, q.verdict)
one_started (Err a) (Err b) p q = cc (p.verdict, q.verdict)
