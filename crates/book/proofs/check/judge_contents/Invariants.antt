-- `book::check::judge_contents` meets its contract. The loop's invariant: the entries passed are fine, and the next body is expected
-- at the place. Assumes nothing.
use mathlib.Core.Path.{◌≡◌}
use Rattle.sizes.specs.Refusal.{fine}
use Rattle.book.specs.Format.{format_one}
use Rattle.book.specs.Read.{expected, first_of, entry_verdict}
use Rattle.book.proofs.check.judge_contents.Given as goal

abbrev pub invariant-loop-i : goal.invariant-loop-i
invariant-loop-i l =
    (l.place ≡ expected format_one l.book l.i) × (first_of (entry_verdict format_one l.book) l.i ≡ fine)
