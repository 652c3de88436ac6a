-- 01, "Stretch books": what the reading of an entry leaves.
use Rattle.std.specs.Prelude.{ℕ, ◌+◌, ◌-◌, ◌*◌, List}
use Rattle.rows.specs.Row.{row}
use Rattle.sizes.specs.Outcome.{Outcome, outcome}
use Rattle.book.specs.Format.{format_one}
use Rattle.book.specs.Read.{n_of, k_of, modules_of, settings_of, lent_entry_verdict}

-- n and k of the entry asked for, as one number: n in its lowest 8 bits, and k in the next 8
unfoldable pub entry_number : List ℕ → ℕ → ℕ
entry_number xs entry = n_of xs (entry - 1) + 256 * k_of xs (entry - 1)

-- its arrangement is written
unfoldable pub entry_leaves : List ℕ → ℕ → List ℕ → List ℕ → Outcome ℕ
entry_leaves xs entry ms ss =
    outcome (lent_entry_verdict format_one xs entry ms ss) (entry_number xs entry) ms ss
    (row (modules_of format_one xs (entry - 1)) (n_of xs (entry - 1))) (row (settings_of format_one xs (entry - 1)) (n_of xs (entry - 1)))
