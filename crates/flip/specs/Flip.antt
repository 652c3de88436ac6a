-- 01, "Arrangements and sizes": a flip of length j reverses the first j slots and adds 1 modulo k to their settings; slots
-- behind stay.
use Rattle.std.specs.Prelude.{ℕ, suc, ◌+◌, ◌-◌, ◌%◌, ◌≤◌, ◌<◌, List, length}
use Rattle.rows.specs.Row.{at, row}
use Rattle.rows.specs.Search.{if_lt, outside}
use Rattle.sizes.specs.declared.Fault.TheVariants.{Flip}
use Rattle.sizes.specs.Refusal.{Verdict, first, refused_if}
use Rattle.sizes.specs.Outcome.{Outcome, outcome}
use Rattle.sizes.specs.Sizes.{most_slots, most_settings}
use Rattle.arrangement.specs.Check.{lent_verdict}

-- a setting raised by one, modulo k
unfoldable pub raised : ℕ → ℕ → ℕ
raised k s = (s + 1) % k

-- the slot whose module comes to slot i when the first j slots are reversed
unfoldable pub source : ℕ → ℕ → ℕ
source j i = if_lt i j (j - suc i) i

-- the arrangement after the flip
unfoldable pub flipped_modules : ℕ → (ℕ → ℕ) → ℕ → ℕ
flipped_modules j M i = M (source j i)

unfoldable pub flipped_settings : ℕ → ℕ → (ℕ → ℕ) → ℕ → ℕ
flipped_settings k j S i = if_lt i j (raised k (S (source j i))) (S i)

-- two rows of which a flip of length j can be made: their first j slots are there, at most 20, and have settings below k
pub record Flippable (k j : ℕ) (ms ss : List ℕ) : Type 0 where
  pub k_high : k ≤ most_settings
  pub j_high : j ≤ most_slots
  pub modules : j ≤ length ms
  pub settings : j ≤ length ss
  pub set : (i : ℕ) → i < j → at ss i < k

-- 9: a flip length is 0 or above n
unfoldable pub flip_length_verdict : ℕ → ℕ → Verdict
flip_length_verdict n j = refused_if Flip (outside 1 n j)

-- the check of a flip of length j of an arrangement in two lent buffers: 1 to 7, and 9
unfoldable pub flip_verdict : ℕ → ℕ → ℕ → List ℕ → List ℕ → Verdict
flip_verdict n k j ms ss = first (lent_verdict n k ms ss) (flip_length_verdict n j)

-- what a flip leaves: the arrangement flipped
unfoldable pub flip_leaves : ℕ → ℕ → ℕ → List ℕ → List ℕ → Outcome Unit
flip_leaves n k j ms ss =
    outcome (flip_verdict n k j ms ss) tt ms ss (row (flipped_modules j (at ms)) n) (row (flipped_settings k j (at ss)) n)
