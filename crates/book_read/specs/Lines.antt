-- W-201, what is printed of a book: a line for each entry, one behind the other.
use Rattle.std.specs.Prelude.{ℕ, ◌*◌, List}
use Rattle.text.specs.Text.{entry_line, entry_most}
use Rattle.book.specs.Format.{format_one, most_entries, joined}
use Rattle.book.specs.Read.{entries_of, n_of, k_of, count_of, rank_of, modules_of, settings_of}

-- the line of entry i, which is 01's entry i + 1
unfoldable pub line_of : List ℕ → ℕ → List ℕ
line_of xs i = entry_line (n_of xs i) (k_of xs i) (count_of xs i) (rank_of format_one xs i) (modules_of format_one xs i) (settings_of format_one xs i)

-- the lines of all entries
unfoldable pub lines_of : List ℕ → List ℕ
lines_of xs = joined (line_of xs) (entries_of xs)

-- they have no more bytes
abbrev pub lines_most : ℕ
lines_most = most_entries * entry_most
