-- `sizes::judge` meets its contract: it leaves at the first check that refuses; past those of n and k the table says whether T is
-- too large. Assumes nothing.
use mathlib.Core.Path.{sym, ◌∙◌}
use native.Mathlib.Omega.{arith}
use Rattle.rows.proofs.Cases.{inside}
use Rattle.sizes.specs.declared.Fault.TheVariants.{Settings}
use Rattle.sizes.specs.Sizes.{sizes_verdict, most_settings}
use Rattle.sizes.proofs.Refusals.{stops, goes_on, no_fault}
use Rattle.sizes.proofs.Weights.{too_many}
use Rattle.sizes.proofs.judge.Goals.{After-refuse_if-2}
use Rattle.sizes.proofs.judge.Goals as goal

pub returns-in_err-refuse_if : goal.returns-in_err-refuse_if
unfolding sizes_verdict
returns-in_err-refuse_if c = stops _ c.from_residual.ensures.1 (rw c.outside.ensures at c.in_err-refuse_if.ensures)

pub returns-in_err-refuse_if-2 : goal.returns-in_err-refuse_if-2
unfolding sizes_verdict
returns-in_err-refuse_if-2 c =
    goes_on (rw c.outside.ensures at c.in_ok-refuse_if.ensures)
    (stops _ c.from_residual-in_err-refuse_if-2.ensures.1 (rw c.outside-2.ensures at c.in_err-refuse_if-2.ensures))

pub bounds-k : goal.bounds-k
bounds-k c =
    let fine = no_fault Settings _ (sym (rw c.outside-2.ensures at c.in_ok-refuse_if-2.ensures)) in
    let k = inside 1 most_settings c.args.k fine in omega arith

pub returns : goal.returns
unfolding sizes_verdict
returns c =
    let settings = rw c.outside-2.ensures at c.in_ok-refuse_if-2.ensures in
    let k = inside 1 most_settings c.args.k (no_fault Settings _ (sym settings)) in
    goes_on (rw c.outside.ensures at c.in_ok-refuse_if.ensures)
    (goes_on settings (c.refuse_if-3.ensures ∙ rw (c.from.ensures, too_many c.args.n c.args.k k.0 k.1)))
