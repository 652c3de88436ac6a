-- `book::check::judge_book` meets its contract: it leaves at the first check that refuses. Assumes nothing.
use mathlib.Core.Path.{◌≡◌, sym, ◌∙◌, ap}
use native.Mathlib.Omega.{arith}
use lib.Dec.{ltb}
use lib.ListN.{length}
use Rattle.sizes.specs.declared.Fault.TheVariants.{Contents}
use Rattle.sizes.specs.Refusal.{refused_if}
use Rattle.sizes.proofs.Refusals.{stops, goes_on}
use Rattle.book.specs.Format.{format_one, entry_place_lem}
use Rattle.book.specs.Asked.{ContentsAsked}
use Rattle.book.specs.Read.{entries_of, first_of, cut_verdict, book_verdict}
use Rattle.book.proofs.Checks.{some_entries, uncut, contents_asked, bodies_asked}
use Rattle.book.proofs.check.judge_book.Goals.{After-entry_place, In_ok-refuse_if-2}
use Rattle.book.proofs.check.judge_book.Goals as goal

pub returns-in_err-refuse_if : goal.returns-in_err-refuse_if
unfolding book_verdict cut_verdict
returns-in_err-refuse_if c = stops _ c.from_residual.ensures.1 c.in_err-refuse_if.ensures

pub judge_head-requires : goal.judge_head-requires
unfolding cut_verdict
judge_head-requires c = uncut 2 _ (sym c.in_ok-refuse_if.ensures)

pub returns-in_err-judge_head : goal.returns-in_err-judge_head
unfolding book_verdict cut_verdict
returns-in_err-judge_head c = goes_on c.in_ok-refuse_if.ensures (stops _ c.from_residual-in_err-judge_head.ensures.1 c.in_err-judge_head.ensures)

pub bounds-book-1 : goal.bounds-book-1
unfolding cut_verdict
bounds-book-1 c = omega (arith, uncut 2 c.args.book.now (sym c.in_ok-refuse_if.ensures))

pub entry_place-requires : goal.entry_place-requires
unfolding entries_of
entry_place-requires c = omega (arith, c.from-entries.ensures, some_entries format_one _ (sym c.in_ok-judge_head.ensures))

-- what is read is the entry number, and the place is where the contents end
count_is : (c : After-entry_place) → c.from-entries.result ≡ entries_of c.args.book.now
unfolding entries_of
count_is c = c.from-entries.ensures

cut : (c : After-entry_place) →
    let xs = c.args.book.now in refused_if Contents (ltb (length xs) c.entry_place.result) ≡ cut_verdict (entry_place_lem (entries_of xs)) xs
unfolding cut_verdict entries_of
cut c = ap (λ p. refused_if Contents (ltb (length c.args.book.now) p)) (c.entry_place.ensures ∙ ap entry_place_lem c.from-entries.ensures)

asked : (c : In_ok-refuse_if-2) → ContentsAsked c.args.book.now
unfolding cut_verdict entries_of
asked c =
    contents_asked format_one _ (sym c.in_ok-judge_head.ensures)
    (sym (c.in_ok-refuse_if-2.ensures ∙ ap (λ p. refused_if Contents (ltb (length c.args.book.now) p)) (c.entry_place.ensures ∙ ap entry_place_lem c.from-entries.ensures)))

pub returns-in_err-refuse_if-2 : goal.returns-in_err-refuse_if-2
unfolding book_verdict cut_verdict
returns-in_err-refuse_if-2 c =
    goes_on c.in_ok-refuse_if.ensures (goes_on c.in_ok-judge_head.ensures
    (stops _ c.from_residual-in_err-refuse_if-2.ensures.1 (c.in_err-refuse_if-2.ensures ∙ cut (goal.at.returns-in_err-refuse_if-2 c).After-entry_place)))

pub judge_contents-requires : goal.judge_contents-requires
judge_contents-requires c = (asked (goal.at.judge_contents-requires c).In_ok-refuse_if-2, count_is (goal.at.judge_contents-requires c).After-entry_place)

pub returns-in_err-judge_contents : goal.returns-in_err-judge_contents
unfolding book_verdict cut_verdict
returns-in_err-judge_contents c =
    goes_on c.in_ok-refuse_if.ensures (goes_on c.in_ok-judge_head.ensures
    (goes_on (c.in_ok-refuse_if-2.ensures ∙ cut (goal.at.returns-in_err-judge_contents c).After-entry_place)
    (stops _ c.from_residual-in_err-judge_contents.ensures.1 c.in_err-judge_contents.ensures)))

pub judge_bodies-requires : goal.judge_bodies-requires
judge_bodies-requires c =
    let past = goal.at.judge_bodies-requires c in
    (bodies_asked _ (asked past.In_ok-refuse_if-2) (sym c.in_ok-judge_contents.ensures), count_is past.After-entry_place)

pub returns : goal.returns
unfolding book_verdict cut_verdict
returns c =
    goes_on c.in_ok-refuse_if.ensures (goes_on c.in_ok-judge_head.ensures
    (goes_on (c.in_ok-refuse_if-2.ensures ∙ cut (goal.at.returns c).After-entry_place)
    (goes_on c.in_ok-judge_contents.ensures (c.judge_bodies.ensures ∙ ap (first_of _) (count_is (goal.at.returns c).After-entry_place)))))
