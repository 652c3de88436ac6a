-- `limpet_book_count` keeps its promise: 0 where the reading is refused, and else the count of the entry asked for. Assumes nothing.
use mathlib.Core.Path.{◌∙◌}
use Rattle.sizes.proofs.Refusals.{refused_number, done_number}
use Rattle.limpet.specs.Calls.{book_count_returns}
use Rattle.limpet.proofs.of_books.limpet_book_count.Goals as goal

pub returns-in-Err : goal.returns-in-Err
unfolding book_count_returns
returns-in-Err c = record { returned_is = refused_number _ c.in-Err.ensures.verdict }

pub returns-in-Ok : goal.returns-in-Ok
unfolding book_count_returns
returns-in-Ok c =
    let made = c.in-Ok.ensures in
    record { returned_is = done_number made.verdict (c.count.ensures ∙ rw (made.entry.0, made.entry.1)) }
