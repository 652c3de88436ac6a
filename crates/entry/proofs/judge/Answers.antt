-- `entry::judge` meets its contract: it leaves at the first check that refuses. Assumes nothing.
use Prim.Native.Nat.{◌-◌}
use mathlib.Core.Path.{◌≡◌, ◌∙◌, ap, ap₂}
use Rattle.sizes.proofs.Refusals.{stops, goes_on}
use Rattle.arrangement.specs.Check.{length_verdict}
use Rattle.book.specs.Read.{n_of, lent_entry_verdict}
use Rattle.entry.proofs.judge.Goals.{After-slots-n}
use Rattle.entry.proofs.judge.Goals as goal

-- n is that of the entry asked for
n_is : (c : After-slots-n) → let a = c.args in c.slots-n.result ≡ n_of a.book.now (a.entry - 1)
n_is c =
    let made = c.in_ok-asked.ensures.entry in c.slots-n.ensures.0 ∙ ap₂ (λ xs e. n_of xs (e - 1)) made.0 made.1

pub returns-in_err-asked : goal.returns-in_err-asked
unfolding lent_entry_verdict
returns-in_err-asked c = stops _ c.from_residual.ensures.1 c.in_err-asked.ensures.verdict

pub returns-in_err-refuse_if : goal.returns-in_err-refuse_if
unfolding lent_entry_verdict length_verdict
returns-in_err-refuse_if c =
    let n = n_is (goal.at.returns-in_err-refuse_if c).After-slots-n in
    goes_on c.in_ok-asked.ensures.verdict
    (stops _ c.from_residual-in_err-refuse_if.ensures.1 (c.in_err-refuse_if.ensures ∙ ap (λ n. length_verdict n c.args.modules.now) n))

pub returns : goal.returns
unfolding lent_entry_verdict length_verdict
returns c =
    let n = n_is (goal.at.returns c).After-slots-n in
    goes_on c.in_ok-asked.ensures.verdict
    (goes_on (c.in_ok-refuse_if.ensures ∙ ap (λ n. length_verdict n c.args.modules.now) n)
    (c.refuse_if-2.ensures ∙ ap (λ n. length_verdict n c.args.settings.now) n))
