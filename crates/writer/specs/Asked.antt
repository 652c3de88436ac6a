-- What the functions that write books ask of their callers, who have made the checks before.
use Rattle.std.specs.Prelude.{ℕ, ◌+◌, ◌*◌, ◌≤◌, ◌<◌, ◌≡◌, List, length}
use Rattle.rows.specs.Row.{at}
use Rattle.sizes.specs.Sizes.{most_settings}
use Rattle.book.specs.Format.{most_entries, Bookable}
use Rattle.writer.specs.Write.{Lists, stretches_in, stretch_at_lem}

-- four lists of one length, of at most 64 stretches
pub record OneLength (l : Lists) : Type 0 where
  pub few : stretches_in l ≤ most_entries
  pub ks_long : length l.ks ≡ stretches_in l
  pub ranks_long : length l.ranks ≡ 8 * stretches_in l
  pub counts_long : length l.counts ≡ 8 * stretches_in l

-- whose stretches may stand in a book
pub record AllBookable (l : Lists) : Type 0 where
  pub bookable : (i : ℕ) → i < stretches_in l → Bookable (stretch_at_lem l i)

-- an arrangement in two rows of as many places, and room for its bytes
pub record SlotsAsked (from : ℕ) (out ms ss : List ℕ) : Type 0 where
  pub room : from + length ms ≤ length out
  pub settings_long : length ss ≡ length ms
  pub modules_low : (i : ℕ) → i < length ms → at ms i < 32
  pub settings_low : (i : ℕ) → i < length ms → at ss i < most_settings
