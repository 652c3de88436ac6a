-- What the functions on ranks ask of their callers, who have made the checks, and what unrank leaves.
use Rattle.std.specs.Prelude.{ℕ, suc, ◌-◌, ◌%◌, ◌≤◌, ◌<◌, ◌≡◌, List, length}
use Rattle.rows.specs.Row.{at}
use Rattle.sizes.specs.Sizes.{weight, Permitted, most_slots, most_settings}
use Rattle.arrangement.specs.Arrangement.{Cell, Valid}
use Rattle.rows.specs.Copy.{wide}
use Rattle.order.specs.Rank.{unrank_modules, unrank_settings}

-- every place of two rows by value, also behind the slots, has a module of at most 20 and a setting below k: so the sums of
-- bytes in a loop over all places fit
pub record Bounded (k : ℕ) (ms ss : List ℕ) : Type 0 where
  pub modules_wide : length ms ≡ wide
  pub settings_wide : length ss ≡ wide
  pub modules_low : (i : ℕ) → i < wide → at ms i ≤ most_slots
  pub settings_low : (i : ℕ) → i < wide → at ss i < k

-- rows whose slot m, counted from 0, is the last of m + 1
pub record RenameAsked (m k : ℕ) (ms ss : List ℕ) : Type 0 where
  pub m_high : m < most_slots
  pub k_high : k ≤ most_settings
  pub last : at ms m ≤ suc m
  pub bounded : Bounded k ms ss

-- v:c for the last of n slots, and the rank r and the weight w of the others
pub record PutAsked (n k v c r w : ℕ) : Type 0 where
  pub sizes : Permitted n k
  pub cell : Cell n k v c
  pub rank : r < weight (n - 1) k
  pub weight_is : w ≡ weight (n - 1) k

-- a valid arrangement in the first n places of two rows by value
pub record RankAsked (n k : ℕ) (ms ss : List ℕ) : Type 0 where
  pub sizes : Permitted n k
  pub valid : Valid n k (at ms) (at ss)
  pub bounded : Bounded k ms ss

-- v:c to come behind m slots
pub record RestoreAsked (m k v c : ℕ) (ms ss : List ℕ) : Type 0 where
  pub m_high : m < most_slots
  pub k_high : k ≤ most_settings
  pub cell : Cell (suc m) k v c
  pub bounded : Bounded k ms ss

-- rows for n slots
pub record UnrankAsked (n k : ℕ) (ms ss : List ℕ) : Type 0 where
  pub n_high : n ≤ most_slots
  pub k_low : 1 ≤ k
  pub k_high : k ≤ most_settings
  pub bounded : Bounded k ms ss

-- the arrangement of the first n digits of r, in the first places of two rows
pub record Unranked (n k r : ℕ) (ms ss : List ℕ) : Type 0 where
  pub modules : (i : ℕ) → i < n → at ms i ≡ unrank_modules n k (r % weight n k) i
  pub settings : (i : ℕ) → i < n → at ss i ≡ unrank_settings n k (r % weight n k) i
  pub bounded : Bounded k ms ss
