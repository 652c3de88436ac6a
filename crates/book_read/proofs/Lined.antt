-- The line of an entry is that of what was read off it, and the lines of a book are put one by one. Assumes nothing.
use Rattle.std.proofs.Common.{ℕ, ◌≡◌, ◌∙◌, sym, ap, refl, ◌+◌, ◌*◌, ◌≤◌, ◌<◌, List, ◌++◌, append-nil, length, arith, add-one}
use Rattle.text.specs.Text.{entry_line, entry_most}
use Rattle.text.proofs.Lines.{joined, entry_line_ext}
use Rattle.book.specs.Format.{format_one, joined as joined_texts}
use Rattle.book.specs.Read.{entries_of, n_of, k_of, count_of, rank_of, modules_of, settings_of}
use Rattle.book_read.specs.Lines.{line_of, lines_of}

-- the line of what was read off entry i is put
pub line_put : (book : List ℕ) (i : ℕ) (xs : List ℕ) {ys : List ℕ} (m n k count rank : ℕ) (M S : ℕ → ℕ) → ys ≡ xs ++ entry_line m k count rank M S →
    m ≡ n → n ≡ n_of book i → k ≡ k_of book i → count ≡ count_of book i → rank ≡ rank_of format_one book i →
    ((p : ℕ) → p < n → M p ≡ modules_of format_one book i p) → ((p : ℕ) → p < n → S p ≡ settings_of format_one book i p) → ys ≡ xs ++ line_of book i
unfolding line_of
line_put book i xs m n k count rank M S put long n_is k_is count_is rank_is modules settings =
    put ∙ ap (λ line. xs ++ line) (entry_line_ext k count rank long modules settings ∙ rw (n_is, k_is, count_is, rank_is) refl)

-- the first i lines are put
pub record Lined (xs book ys : List ℕ) (i : ℕ) : Type 0 where
  pub high : i ≤ entries_of book
  pub put : ys ≡ xs ++ joined_texts (line_of book) i
  pub short : length ys ≤ length xs + entry_most * i

pub lined_first : (xs book : List ℕ) → Lined xs book xs 0
unfolding joined_texts
lined_first xs book = record { high = omega arith; put = sym (append-nil xs); short = omega arith }

pub lined_on : {xs book ys zs : List ℕ} {i : ℕ} → Lined xs book ys i → i < entries_of book → zs ≡ ys ++ line_of book i → length zs ≤ length ys + entry_most → Lined xs book zs (i + 1)
unfolding joined_texts
lined_on {xs} {book} {i = i} so l more near = record {
  high = omega arith;
  put = rw (add-one, joined_texts) (joined xs (joined_texts (line_of book) i) _ so.put more);
  short = omega (arith, so.short);
}

pub all_lined : {xs book ys : List ℕ} {i : ℕ} → Lined xs book ys i → i ≡ entries_of book → ys ≡ xs ++ lines_of book
unfolding lines_of
all_lined so all = rw (← all) so.put
