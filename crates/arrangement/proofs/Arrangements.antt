-- What an arrangement holds that has been checked. It is settled by n, k and the two rows. Assumes nothing.
use Rattle.std.proofs.Common.{IfOk, Result, Ok, Err}
use mathlib.Core.Path.{◌≡◌, sym, ◌∙◌}
use mathlib.Core.List.{List}
use Prim.Native.Nat.{ℕ}
use Rattle.sizes.specs.declared.Refusal.{Refusal}
use Rattle.sizes.specs.Refusal.{checked}
use Rattle.sizes.proofs.Made.{same_sizes}
use Rattle.arrangement.specs.Check.{lent_verdict}
use Rattle.arrangement.specs.declared.lent.Arrangement.{Arrangement}
use Rattle.arrangement.proofs.Validity.{Accepted}

pub held : (a : Arrangement) → Accepted a.sizes.n a.sizes.k a.modules.now a.settings.now
held a = record { sizes = a.sizes.permitted; modules = a.modules_long; settings = a.settings_long; valid_is = a.valid }

-- what the making of an arrangement promises
pub record Lent (n k : ℕ) (ms ss : List ℕ) (r : Result Arrangement Refusal) : Type 0 where
  pub verdict : checked r ≡ lent_verdict n k ms ss
  pub sizes : IfOk r (λ made. (made.sizes.n ≡ n) × (made.sizes.k ≡ k))
  pub rows : IfOk r (λ made. (made.modules.now ≡ ms) × (made.settings.now ≡ ss))

-- two answers that keep that promise are the same refusal, or have the same sizes and rows
abbrev pub Alike : Result Arrangement Refusal → Result Arrangement Refusal → Type 0
Alike (Ok a) (Ok b) = (a.sizes ≡ b.sizes) × (a.modules.now ≡ b.modules.now) × (a.settings.now ≡ b.settings.now)
Alike (Err a) (Err b) = a ≡ b
Alike r s = ⊥

pub one_lent : {n k : ℕ} {ms ss : List ℕ} (r s : Result Arrangement Refusal) → Lent n k ms ss r → Lent n k ms ss s → Alike r s
one_lent (Ok a) (Ok b) p q =
    (same_sizes (p.sizes.0 ∙ sym q.sizes.0) (p.sizes.1 ∙ sym q.sizes.1), p.rows.0 ∙ sym q.rows.0, p.rows.1 ∙ sym q.rows.1)
one_lent (Ok a) (Err b) p q = cc (p.verdict, q.verdict)
one_lent (Err a) (Ok b) p q = cc (p.verdict, q.verdict)
one_lent (Err a) (Err b) p q = cc (p.verdict, q.verdict)
