-- `book::check::judge` meets its contract: it leaves at the first check that refuses. Assumes nothing.
use mathlib.Core.Path.{sym, ◌∙◌, ap}
use native.Mathlib.Omega.{arith}
use Rattle.rows.specs.Search.{outside}
use Rattle.sizes.specs.declared.Fault.TheVariants.{Asked}
use Rattle.sizes.specs.Refusal.{refused_if}
use Rattle.sizes.proofs.Refusals.{stops, goes_on}
use Rattle.book.specs.Format.{format_one}
use Rattle.book.specs.Read.{entries_of, asked_verdict}
use Rattle.book.proofs.Checks.{checked}
use Rattle.book.proofs.check.judge.Goals as goal

pub returns-in_err-judge_book : goal.returns-in_err-judge_book
unfolding asked_verdict
returns-in_err-judge_book c = stops _ c.from_residual.ensures.1 c.in_err-judge_book.ensures

pub bounds-book-1 : goal.bounds-book-1
bounds-book-1 c = omega (arith, (checked format_one _ (sym c.in_ok-judge_book.ensures)).headed)

pub returns : goal.returns
unfolding asked_verdict entries_of
returns c =
    goes_on c.in_ok-judge_book.ensures
    (c.refuse_if.ensures ∙ ap (refused_if Asked) (c.outside.ensures ∙ ap (λ e. outside 1 e c.args.entry) c.from.ensures))
