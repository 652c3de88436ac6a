-- `writer::check::judge_lists` meets its contract: it leaves at the first check that refuses. Assumes nothing.
use Rattle.sizes.proofs.Refusals.{stops, goes_on}
use Rattle.arrangement.specs.Check.{length_verdict}
use Rattle.writer.specs.Write.{lists_verdict}
use Rattle.writer.proofs.check.judge_lists.Goals as goal

pub returns-in_err-refuse_if : goal.returns-in_err-refuse_if
unfolding lists_verdict length_verdict
returns-in_err-refuse_if c = stops _ c.from_residual.ensures.1 c.in_err-refuse_if.ensures

pub returns-in_err-judge_words : goal.returns-in_err-judge_words
unfolding lists_verdict length_verdict
returns-in_err-judge_words c =
    goes_on c.in_ok-refuse_if.ensures (stops _ c.from_residual-in_err-judge_words.ensures.1 c.in_err-judge_words.ensures)

pub returns : goal.returns
unfolding lists_verdict length_verdict
returns c = goes_on c.in_ok-refuse_if.ensures (goes_on c.in_ok-judge_words.ensures c.judge_words-2.ensures)
