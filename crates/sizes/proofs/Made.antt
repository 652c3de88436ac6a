-- The sizes that are made of n and k, or the refusal, are settled by n and k. Assumes nothing.
use Rattle.std.proofs.Common.{IfOk, Result, Ok, Err}
use Rattle.std.proofs.Math.Bridge.{le_prop}
use mathlib.Core.HLevel.{is_prop→PathP}
use mathlib.Core.Path.{◌≡◌, sym, ap, ◌∙◌}
use Prim.Native.Nat.{ℕ}
use Rattle.sizes.specs.declared.Refusal.{Refusal}
use Rattle.sizes.specs.declared.permitted.Sizes.{Sizes}
use Rattle.sizes.specs.Refusal.{checked}
use Rattle.sizes.specs.Sizes.{sizes_verdict, Permitted}

permitted_prop : (n k : ℕ) → IsProp (Permitted n k)
permitted_prop n k = hlevel le_prop

-- sizes of the same n and k are the same
pub same_sizes : {x y : Sizes} → x.n ≡ y.n → x.k ≡ y.k → x ≡ y
same_sizes {x} {y} n_same k_same = λ i. record {
  n = n_same i;
  k = k_same i;
  permitted = is_prop→PathP (λ j. Permitted (n_same j) (k_same j)) (λ j. permitted_prop (n_same j) (k_same j)) x.permitted y.permitted i;
}

-- what the making of sizes promises
pub record Made (n k : ℕ) (r : Result Sizes Refusal) : Type 0 where
  pub verdict : checked r ≡ sizes_verdict n k
  pub sizes : IfOk r (λ sizes. (sizes.n ≡ n) × (sizes.k ≡ k))

pub one_made : {n k : ℕ} (r s : Result Sizes Refusal) → Made n k r → Made n k s → r ≡ s
one_made (Ok x) (Ok y) p q = ap Ok (same_sizes (p.sizes.0 ∙ sym q.sizes.0) (p.sizes.1 ∙ sym q.sizes.1))
one_made (Ok x) (Err b) p q = cc (p.verdict, q.verdict)
one_made (Err a) (Ok y) p q = cc (p.verdict, q.verdict)
one_made (Err a) (Err b) p q = cc (p.verdict, q.verdict)
