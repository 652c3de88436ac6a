-- `book_write::answer` meets its contract: a bad line is refused, and else the book of the lists is written. Assumes nothing.
use Rattle.book_write.proofs.Written.{answers_bad, answers_stretches}
use Rattle.book_write.proofs.answer.Goals as goal

pub returns-in_err-stretches : goal.returns-in_err-stretches
returns-in_err-stretches c = answers_bad _ _ _ _ _ _ c.from_residual.ensures.1 c.in_err-stretches.ensures.takes

pub returns : goal.returns
returns c = answers_stretches _ _ _ _ _ _ c.in_ok-stretches.ensures.takes c.write_lent.ensures.value c.write_lent.ensures.book_after
