-- 01, "Stretches, listing, pair count": the pair count for v:c and w:e is the number of arrangements of a stretch in which v:c stands
-- in some slot i and w:e in slot i + 1. An arrangement met twice counts twice.
use Rattle.std.specs.Prelude.{ℕ, zero, suc, ◌+◌, ◌-◌, Bool, true, false, cond, ltb, leb, eqb}
use Rattle.rows.specs.Search.{outside, lowest}
use Rattle.sizes.specs.declared.Fault.TheVariants.{Pair}
use Rattle.sizes.specs.Refusal.{Verdict, first, refused_if}
use Rattle.order.specs.Rank.{unrank_modules, unrank_settings}
use Rattle.stretch.specs.Stretch.{rank_at, stretch_verdict}

-- v:c stands in slot i, counted from 0
unfoldable pub stands_at : (ℕ → ℕ) → (ℕ → ℕ) → ℕ → ℕ → ℕ → Bool
stands_at M S v c i = cond (eqb (M i) v) (eqb (S i) c) false

-- and w:e in the next slot
unfoldable pub pair_at : (ℕ → ℕ) → (ℕ → ℕ) → ℕ → ℕ → ℕ → ℕ → ℕ → Bool
pair_at M S v c w e i = cond (stands_at M S v c i) (stands_at M S w e (suc i)) false

-- the pair stands in some two of the n slots
unfoldable pub has_pair : ℕ → (ℕ → ℕ) → (ℕ → ℕ) → ℕ → ℕ → ℕ → ℕ → Bool
has_pair n M S v c w e = ltb 0 (lowest (pair_at M S v c w e) (n - 1))

-- in how many arrangements of the stretch of t from rank r on
unfoldable pub pair_count : ℕ → ℕ → ℕ → ℕ → ℕ → ℕ → ℕ → ℕ → ℕ
pair_count n k r zero v c w e = 0
pair_count n k r (suc t) v c w e =
    pair_count n k r t v c w e + cond (has_pair n (unrank_modules n k (rank_at n k r t)) (unrank_settings n k (rank_at n k r t)) v c w e) 1 0

-- 12: a module is outside 1..n, the same module stands twice in the pair, or a setting is k or more
unfoldable pub bad_pair : ℕ → ℕ → ℕ → ℕ → ℕ → ℕ → Bool
bad_pair n k v c w e =
    cond (outside 1 n v) true (cond (outside 1 n w) true (cond (eqb v w) true (cond (leb k c) true (leb k e))))

-- the check of a stretch and of a pair: 1, 2, 3, 8, 11 and 12
unfoldable pub pair_verdict : ℕ → ℕ → ℕ → ℕ → ℕ → ℕ → ℕ → ℕ → Verdict
pair_verdict n k r t v c w e = first (stretch_verdict n k r t) (refused_if Pair (bad_pair n k v c w e))
