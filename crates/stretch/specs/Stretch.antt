-- 01, "Stretches, listing, pair count": a stretch is a start rank r and a count t: the t arrangements from r on, going round after
-- T - 1, again and again where t exceeds T.
use Rattle.std.specs.Prelude.{ℕ, ◌+◌, ◌%◌, ltb}
use Rattle.sizes.specs.declared.Fault.TheVariants.{Count}
use Rattle.sizes.specs.Refusal.{Verdict, first, refused_if}
use Rattle.sizes.specs.Sizes.{weight}
use Rattle.order.specs.Check.{start_verdict}

-- the rank of arrangement i of the stretch from r on, counted from 0
unfoldable pub rank_at : ℕ → ℕ → ℕ → ℕ → ℕ
rank_at n k r i = (r + i) % weight n k

-- the limit of t
abbrev pub most_counted : ℕ
most_counted = 65536

-- 11: t is above 65,536
unfoldable pub count_verdict : ℕ → Verdict
count_verdict t = refused_if Count (ltb most_counted t)

-- the check of a stretch: 1, 2, 3, 8 and 11
unfoldable pub stretch_verdict : ℕ → ℕ → ℕ → ℕ → Verdict
stretch_verdict n k r t = first (start_verdict n k r) (count_verdict t)
