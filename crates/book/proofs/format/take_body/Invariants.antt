-- `book::format::take_body` meets its contract. The loop's invariant: the first i slots of both rows are the body's. Assumes nothing.
use mathlib.Core.Path.{◌≡◌}
use Rattle.rows.specs.Row.{at, front}
use Rattle.book.specs.Format.{format_one}
use Rattle.book.proofs.format.take_body.Given as goal

abbrev pub invariant-loop-i : goal.invariant-loop-i
invariant-loop-i l =
    (l.modules ≡ front (format_one.module_in (at l.body)) l.i l.initial.modules) × (l.settings ≡ front (format_one.setting_in (at l.body)) l.i l.initial.settings)
