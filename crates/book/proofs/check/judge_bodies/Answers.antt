use Prim.Native.Nat.{◌+◌, ◌≤◌, ◌<◌}
use mathlib.Core.Path.{◌≡◌, ◌∙◌, ap, ap₂}
use native.Mathlib.Omega.{arith}
use lib.ListN.{length}
use Rattle.sizes.specs.Refusal.{fine}
use Rattle.book.specs.Format.{format_one, entry_place_lem}
use Rattle.book.specs.Read.{entries_of, n_of, k_of, body_verdict}
use Rattle.book.proofs.Checks.{none_judged, entry_passed, stops_in, entry_inside, n_read, k_read, expected_first, expected_next, body_inside, body_long, body_judged}
use Rattle.book.proofs.check.judge_bodies.Goals.{In-loop-i, After-from, After-from-in-loop-i, After-judge_body}
use Rattle.book.proofs.check.judge_bodies.Goals as goal

pub loop-i-init : goal.loop-i-init
loop-i-init c =
    (c.entry_place-place.ensures ∙ ap entry_place_lem c.requires.1 ∙ expected_first format_one _, none_judged _)

-- the entry is one of the book's, and its body ends before the book does
one : (c : In-loop-i) → c.loop-i.i < entries_of c.args.book.now
one c = omega (arith, c.loop-i-test.true, c.requires.1)

n_is : (c : After-from) → c.from.result ≡ n_of c.args.book.now c.loop-i.i
n_is c = c.from.ensures ∙ n_read _ _ c.entry-entry.ensures.is

ends : (c : After-from) → c.loop-i.place + c.from.result ≤ length c.args.book.now
unfolding format_one
ends c =
    let l : c.loop-i.i < entries_of c.args.book.now = omega (arith, c.loop-i-test.true, c.requires.1) in
    omega (arith, n_is c, body_inside format_one _ _ c.requires.0.ends l)

pub entry-entry-requires : goal.entry-entry-requires
entry-entry-requires c = entry_inside c.requires.0.contents (one (goal.at.entry-entry-requires c).In-loop-i)

pub overflow_add-end : goal.overflow_add-end
overflow_add-end c = omega (arith, ends (goal.at.overflow_add-end c).After-from)

pub slice_bounds-judge_body-end : goal.slice_bounds-judge_body-end
slice_bounds-judge_body-end c = omega (arith, ends (goal.at.slice_bounds-judge_body-end c).After-from)

k_is : (c : After-from-in-loop-i) → c.from-in-loop-i.result ≡ k_of c.args.book.now c.loop-i.i
k_is c = c.from-in-loop-i.ensures ∙ k_read _ _ c.entry-entry.ensures.is

pub judge_body-requires : goal.judge_body-requires
judge_body-requires c =
    let past = goal.at.judge_body-requires c in
    let sizes = c.requires.0.sizes _ (one past.In-loop-i) in
    (omega (arith, body_long _ _ c.loop-i.invariant.0 (n_is past.After-from) (ends past.After-from), n_is past.After-from, sizes.n_high), omega (arith, k_is past.After-from-in-loop-i, sizes.k_low))

-- the verdict is about its body
judged : (c : After-judge_body) →
    c.loop-i.place + c.from.result ≤ length c.args.book.now →
    c.judge_body.result ≡ body_verdict format_one c.args.book.now c.loop-i.i
judged c inside = body_judged _ _ c.loop-i.invariant.0 (c.from.ensures ∙ n_read _ _ c.entry-entry.ensures.is) inside (c.from-in-loop-i.ensures ∙ k_read _ _ c.entry-entry.ensures.is) c.judge_body.ensures

pub returns-in_err-in_entry : goal.returns-in_err-in_entry
returns-in_err-in_entry c =
    let past = goal.at.returns-in_err-in_entry c in
    (stops_in _ fine c.loop-i.invariant.1 c.loop-i-test.true (judged past.After-judge_body (ends past.After-from)) c.from_residual.ensures.1 c.in_err-in_entry.ensures).0

pub loop-i-preserved : goal.loop-i-preserved
unfolding format_one
loop-i-preserved c =
    let past = goal.at.loop-i-preserved c in (
      ap₂ ◌+◌ c.loop-i.invariant.0 (n_is past.After-from) ∙ expected_next format_one _ _,
      entry_passed _ c.loop-i.invariant.1 (judged past.After-judge_body (ends past.After-from)) c.in_ok-in_entry.ensures,
    )
