-- 01, "Numbers of refusal", 8: the check of a rank.
use Rattle.std.specs.Prelude.{ℕ, List, leb}
use Rattle.sizes.specs.declared.Fault.TheVariants.{Rank}
use Rattle.sizes.specs.Refusal.{Verdict, first, refused_if}
use Rattle.sizes.specs.Sizes.{weight, sizes_verdict}
use Rattle.arrangement.specs.Check.{buffers_verdict}

-- 8: a rank is T or more
unfoldable pub rank_verdict : ℕ → ℕ → ℕ → Verdict
rank_verdict n k r = refused_if Rank (leb (weight n k) r)

-- the check of n, k and a start rank: 1, 2, 3 and 8
unfoldable pub start_verdict : ℕ → ℕ → ℕ → Verdict
start_verdict n k r = first (sizes_verdict n k) (rank_verdict n k r)

-- the check of n and k, of two lent buffers, of n bytes and of so many more, and of a rank: 1 to 4, and 8
unfoldable pub lent_rank_verdict : ℕ → ℕ → ℕ → List ℕ → ℕ → List ℕ → Verdict
lent_rank_verdict n k r xs more ys = first (buffers_verdict n k xs more ys) (rank_verdict n k r)
