-- 01, "Arrangements and sizes": n slots, k settings, and T, the number of arrangements.
use Rattle.std.specs.Prelude.{ℕ, zero, suc, ◌*◌, ◌^◌, ◌-◌, ◌≤◌, ltb}
use Rattle.rows.specs.Search.{outside}
use Rattle.sizes.specs.declared.Fault.TheVariants.{Slots, Settings, Total}
use Rattle.sizes.specs.Refusal.{Verdict, first, refused_if}

-- the limits of n, of k and of T
abbrev pub most_slots : ℕ
most_slots = 20

abbrev pub most_settings : ℕ
most_settings = 8

abbrev pub most_arrangements : ℕ
most_arrangements = 2 ^ 64 - 1

-- n!
unfoldable pub factorial : ℕ → ℕ
factorial zero = 1
factorial (suc n) = suc n * factorial n

-- the weight of n places, k ^ n × n!: in how many ways n modules can be arranged, each at one of k settings
unfoldable pub weight : ℕ → ℕ → ℕ
weight n k = k ^ n * factorial n

-- the check of n and k: 1 where n is 0 or above 20, 2 where k is 0 or above 8, 3 where T is above 2 ^ 64 - 1
unfoldable pub sizes_verdict : ℕ → ℕ → Verdict
sizes_verdict n k =
    first (refused_if Slots (outside 1 most_slots n))
    (first (refused_if Settings (outside 1 most_settings k))
    (refused_if Total (ltb most_arrangements (weight n k))))

-- the sizes that the check lets pass
pub record Permitted (n k : ℕ) : Type 0 where
  pub n_low : 1 ≤ n
  pub n_high : n ≤ most_slots
  pub k_low : 1 ≤ k
  pub k_high : k ≤ most_settings
  pub few : weight n k ≤ most_arrangements
