-- What the functions on books ask of their callers, who have made the checks before.
use Rattle.std.specs.Prelude.{ℕ, ◌≤◌, ◌<◌, ◌≡◌, List, length}
use Rattle.sizes.specs.Sizes.{Permitted}
use Rattle.book.specs.Format.{format_one, most_entries, entry_place_lem}
use Rattle.book.specs.Read.{entries_of, n_of, k_of, expected}

-- a book of at most 64 entries, whose contents are not cut
pub record ContentsAsked (xs : List ℕ) : Type 0 where
  pub few : entries_of xs ≤ most_entries
  pub uncut : entry_place_lem (entries_of xs) ≤ length xs

-- and whose entries have permitted sizes, and which ends with its last body
pub record BodiesAsked (xs : List ℕ) : Type 0 where
  pub contents : ContentsAsked xs
  pub sizes : (i : ℕ) → i < entries_of xs → Permitted (n_of xs i) (k_of xs i)
  pub ends : length xs ≡ expected format_one xs (entries_of xs)
