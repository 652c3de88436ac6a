-- 01, "Numbers of refusal", 4 to 7: the check of an arrangement. Numbers 5, 6 and 7 are each tried over all slots before the
-- next, and their place is the lowest bad slot, counted from 1.
use Rattle.std.specs.Prelude.{ℕ, Option, None, Some, ◌+◌, ◌≤◌, ◌<◌, Bool, not, List, eqb, leb, ltb, length}
use Rattle.rows.specs.Row.{at}
use Rattle.rows.specs.Search.{outside, lowest}
use Rattle.sizes.specs.declared.Fault.TheVariants.{Length, Module, Repeat, Setting}
use Rattle.sizes.specs.Refusal.{Verdict, first, refused_if, refused_at_lem}
use Rattle.sizes.specs.Sizes.{sizes_verdict, most_slots}
use Rattle.rows.specs.Copy.{wide}

-- 4: a lent buffer that should have n bytes hasn't
unfoldable pub length_verdict : ℕ → List ℕ → Verdict
length_verdict n xs = refused_if Length (not (eqb (length xs) n))

-- the check of n and k and of two lent buffers, the first of n bytes and the second of so many more: 1 to 4
unfoldable pub buffers_verdict : ℕ → ℕ → List ℕ → ℕ → List ℕ → Verdict
buffers_verdict n k xs more ys = first (sizes_verdict n k) (first (length_verdict n xs) (length_verdict (n + more) ys))

-- the place of a slot that a search found, counted from 1; 0 where it found none
unfoldable pub place_found : Option ℕ → ℕ
place_found None = 0
place_found (Some slot) = slot + 1

-- 5: the module in slot i is outside 1..n
unfoldable pub bad_module : ℕ → (ℕ → ℕ) → ℕ → Bool
bad_module n M i = outside 1 n (M i)

-- 6: the module in slot i already stands in a lower slot
unfoldable pub repeated : (ℕ → ℕ) → ℕ → Bool
repeated M i = ltb 0 (lowest (λ h. eqb (M h) (M i)) i)

-- 7: the setting in slot i is k or more
unfoldable pub bad_setting : ℕ → (ℕ → ℕ) → ℕ → Bool
bad_setting k S i = leb k (S i)

-- a row of at most 20 modules that can each be marked in a row by value
pub record Marked (ms : List ℕ) : Type 0 where
  pub few : length ms ≤ most_slots
  pub low : (i : ℕ) → i < length ms → at ms i < wide

-- 5, 6 and 7 over n slots
unfoldable pub slots_verdict : ℕ → ℕ → (ℕ → ℕ) → (ℕ → ℕ) → Verdict
slots_verdict n k M S =
    first (refused_at_lem Module (lowest (bad_module n M) n))
    (first (refused_at_lem Repeat (lowest (repeated M) n)) (refused_at_lem Setting (lowest (bad_setting k S) n)))

-- the check of n and k and of an arrangement in two lent buffers: 1 to 7
unfoldable pub lent_verdict : ℕ → ℕ → List ℕ → List ℕ → Verdict
lent_verdict n k ms ss = first (buffers_verdict n k ms 0 ss) (slots_verdict n k (at ms) (at ss))
