-- `book::check::judge_bodies` meets its contract. The loop's invariant: the bodies passed are fine, and the next begins at the place.
-- Assumes nothing.
use mathlib.Core.Path.{◌≡◌}
use Rattle.sizes.specs.Refusal.{fine}
use Rattle.book.specs.Format.{format_one}
use Rattle.book.specs.Read.{expected, first_of, body_verdict}
use Rattle.book.proofs.check.judge_bodies.Given as goal

abbrev pub invariant-loop-i : goal.invariant-loop-i
invariant-loop-i l =
    (l.place ≡ expected format_one l.book l.i) × (first_of (body_verdict format_one l.book) l.i ≡ fine)
