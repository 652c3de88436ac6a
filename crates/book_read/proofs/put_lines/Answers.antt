use Rattle.std.proofs.Common.{◌+◌, ◌-◌, ◌≡◌, ◌≤◌, ◌++◌, ◌∙◌, ap, arith}
use Rattle.book.specs.Format.{format_one, most_entries}
use Rattle.book.specs.Read.{entries_of}
use Rattle.book.proofs.Checks.{checked, asked_fine}
use Rattle.book_read.specs.Lines.{line_of}
use Rattle.book_read.proofs.Lined.{lined_first, lined_on, all_lined}
use Rattle.book_read.proofs.put_lines.Goals.{Start}
use Rattle.book_read.proofs.put_lines.Goals as goal

-- the book has at most 64 entries
few : (c : Start) → entries_of c.args.book.now ≤ most_entries
few c = (checked format_one _ c.requires.1).few

pub bounds-book-1 : goal.bounds-book-1
bounds-book-1 c = omega (arith, (checked format_one _ c.requires.1).headed)

pub loop-i-init : goal.loop-i-init
loop-i-init c = lined_first _ _

pub invariant_of-entry : goal.invariant_of-entry
unfolding entries_of
invariant_of-entry c = record { fine = asked_fine format_one c.args.book.now _ c.requires.1 (omega arith) (omega arith) }

pub put_line-requires : goal.put_line-requires
unfolding entries_of
put_line-requires c = omega (arith, few (goal.at.put_line-requires c).Start, c.loop-i.invariant.short, c.requires.0)

pub loop-i-preserved : goal.loop-i-preserved
unfolding entries_of
loop-i-preserved c =
    let back : c.loop-i.i + 1 - 1 ≡ c.loop-i.i = omega arith in
    lined_on c.loop-i.invariant (omega arith) (c.put_line.ensures.put ∙ ap (λ i. c.loop-i.out.items ++ line_of c.args.book.now i) back) c.put_line.ensures.upper_bound

pub returns : goal.returns
unfolding entries_of
returns c = all_lined c.loop-i.invariant (omega (arith, c.loop-i.invariant.high))
