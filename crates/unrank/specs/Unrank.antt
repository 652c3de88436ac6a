-- 01, "Rank and its digits": what the writing of the arrangement of a rank leaves.
use Rattle.std.specs.Prelude.{ℕ, List}
use Rattle.rows.specs.Row.{row}
use Rattle.sizes.specs.Outcome.{Outcome, outcome}
use Rattle.order.specs.Check.{lent_rank_verdict}
use Rattle.order.specs.Rank.{unrank_modules, unrank_settings}

unfoldable pub unrank_leaves : ℕ → ℕ → ℕ → List ℕ → List ℕ → Outcome Unit
unrank_leaves n k r ms ss =
    outcome (lent_rank_verdict n k r ms 0 ss) tt ms ss (row (unrank_modules n k r) n) (row (unrank_settings n k r) n)
