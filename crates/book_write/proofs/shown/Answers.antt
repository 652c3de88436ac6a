-- `book_write::shown` meets its contract: as many bytes of the buffer as were answered are the book. Assumes nothing.
use mathlib.Core.Path.{refl, sym}
use lib.Seq.{length-take-le}
use Rattle.book_write.proofs.Written.{answer_inside, shows_written, shows_refused}
use Rattle.book_write.proofs.shown.Goals as goal

pub returns-in-Ok : goal.returns-in-Ok
returns-in-Ok c = shows_written c.in-Ok.ensures refl

pub returns-in-Err : goal.returns-in-Err
returns-in-Err c = shows_refused c.in-Err.ensures

pub slice_bounds-result-end : goal.slice_bounds-result-end
slice_bounds-result-end c = sym (length-take-le _ _ (answer_inside c.in-Ok.ensures refl))
