-- `book::check::judge_entry` meets its contract: the bytes are where the entry's numbers stand, and it leaves at the first check that
-- refuses. Assumes nothing.
use mathlib.Core.Path.{◌≡◌, ◌∙◌, ap₂}
use mathlib.Core.Bool.{not}
use lib.Dec.{eqb}
use Rattle.sizes.specs.declared.Fault.TheVariants.{Entry}
use Rattle.sizes.specs.Refusal.{refused_if}
use Rattle.sizes.specs.Sizes.{sizes_verdict}
use Rattle.sizes.proofs.Refusals.{stops, goes_on}
use Rattle.book.specs.Format.{format_one}
use Rattle.book.specs.Read.{n_of, k_of, offset_of, expected, entry_verdict}
use Rattle.book.proofs.Checks.{entry_inside, n_read, k_read, offset_read, count_read, count_judged}
use Rattle.book.proofs.check.judge_entry.Goals.{After-new, After-number_in-offset}
use Rattle.book.proofs.check.judge_entry.Goals as goal

pub entry-entry-requires : goal.entry-entry-requires
entry-entry-requires c = entry_inside c.requires.0 c.requires.1

-- what is read is what the entry says: its sizes
sized : (c : After-new) → let a = c.args in sizes_verdict c.from.result c.from-2.result ≡ sizes_verdict (n_of a.book.now a.i) (k_of a.book.now a.i)
sized c =
    let is = c.entry-entry.ensures.is in
    ap₂ sizes_verdict (c.from.ensures ∙ n_read _ _ is) (c.from-2.ensures ∙ k_read _ _ is)

-- and its offset
placed : (c : After-number_in-offset) →
    let a = c.args in
    refused_if Entry (not (eqb c.number_in-offset.result a.place)) ≡ refused_if Entry (not (eqb (offset_of a.book.now a.i) (expected format_one a.book.now a.i)))
placed c =
    ap₂ (λ x y. refused_if Entry (not (eqb x y)))
    (offset_read _ _ c.entry-entry.ensures.is (entry_inside c.requires.0 c.requires.1).1 c.number_in-offset.ensures) c.requires.2

pub returns-in_err-sizes : goal.returns-in_err-sizes
unfolding entry_verdict
returns-in_err-sizes c =
    stops _ c.from_residual.ensures.1 (c.in_err-sizes.ensures.verdict ∙ sized (goal.at.returns-in_err-sizes c).After-new)

pub returns-in_err-refuse_if : goal.returns-in_err-refuse_if
unfolding entry_verdict
returns-in_err-refuse_if c =
    let at = goal.at.returns-in_err-refuse_if c in
    goes_on (c.in_ok-sizes.ensures.verdict ∙ sized at.After-new)
    (stops _ c.from_residual-in_err-refuse_if.ensures.1 (c.in_err-refuse_if.ensures ∙ placed at.After-number_in-offset))

pub returns : goal.returns
unfolding entry_verdict
returns c =
    let at = goal.at.returns c in
    let is = c.entry-entry.ensures.is in
    let same = c.in_ok-sizes.ensures.sizes in
    let count = count_read _ _ is (entry_inside c.requires.0 c.requires.1).1 c.number_in.ensures in
    goes_on (c.in_ok-sizes.ensures.verdict ∙ sized at.After-new)
    (goes_on (c.in_ok-refuse_if.ensures ∙ placed at.After-number_in-offset)
    (count_judged (same.0 ∙ c.from.ensures ∙ n_read _ _ is) (same.1 ∙ c.from-2.ensures ∙ k_read _ _ is) count c.judge_count.ensures))
