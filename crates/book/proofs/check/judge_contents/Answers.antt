use Prim.Native.Nat.{◌+◌}
use mathlib.Core.Path.{◌≡◌, sym, ◌∙◌, ap, ap₂}
use mathlib.Core.Bool.{not}
use native.Mathlib.Omega.{arith}
use lib.Dec.{eqb}
use lib.ListN.{length}
use Rattle.sizes.specs.declared.Fault.TheVariants.{End}
use Rattle.sizes.specs.Refusal.{refused_if}
use Rattle.sizes.proofs.Refusals.{goes_on}
use Rattle.book.specs.Format.{Bytes, format_one, entry_place_lem}
use Rattle.book.specs.Read.{entries_of, n_of, expected, first_of, contents_verdict, end_verdict}
use Rattle.book.proofs.Checks.{none_judged, entry_passed, stops_in, entry_inside, n_read, expected_first, expected_next, expected_high}
use Rattle.book.proofs.check.judge_contents.Goals.{After-loop-i}
use Rattle.book.proofs.check.judge_contents.Goals as goal

pub loop-i-init : goal.loop-i-init
loop-i-init c =
    (c.entry_place-place.ensures ∙ ap entry_place_lem c.requires.1 ∙ expected_first format_one _, none_judged _)

pub returns-in_err-in_entry : goal.returns-in_err-in_entry
unfolding contents_verdict
returns-in_err-in_entry c =
    (stops_in _ {m = entries_of c.args.book.now} _ c.loop-i.invariant.1 (omega (arith, c.loop-i-test.true, c.requires.1)) c.judge_entry.ensures c.from_residual.ensures.1 c.in_err-in_entry.ensures).1

pub entry-requires : goal.entry-requires
entry-requires c = entry_inside c.requires.0 (omega (arith, c.loop-i-test.true, c.requires.1))

pub overflow_add-place : goal.overflow_add-place
unfolding Bytes n_of
overflow_add-place c =
    let pre = c.requires in
    omega (arith, c.loop-i.invariant.0, c.loop-i-test.true, pre.1, pre.0.few, expected_high _ (λ j. omega (arith, c.type_inv.book j)) pre.0.few c.loop-i.i, c.from-place.ensures ∙ n_read _ _ c.entry.ensures.is, c.type_inv.book (entry_place_lem c.loop-i.i))

pub loop-i-preserved : goal.loop-i-preserved
unfolding format_one
loop-i-preserved c = (
  ap₂ ◌+◌ c.loop-i.invariant.0 (c.from-place.ensures ∙ n_read _ _ c.entry.ensures.is) ∙ expected_next format_one _ _,
  entry_passed _ c.loop-i.invariant.1 c.judge_entry.ensures c.in_ok-in_entry.ensures,
)

pub returns : goal.returns
unfolding contents_verdict end_verdict
returns c =
    let all : c.loop-i.i ≡ entries_of c.args.book.now = omega (arith, c.loop-i-test.false, c.requires.1) in
    goes_on (sym (ap (first_of _) (sym all) ∙ c.loop-i.invariant.1))
    (c.refuse_if.ensures ∙ ap (λ p. refused_if End (not (eqb (length c.args.book.now) p))) (c.loop-i.invariant.0 ∙ ap (expected format_one _) all))
