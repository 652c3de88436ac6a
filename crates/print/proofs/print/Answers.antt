-- `print::print` meets its contract: a refusal has its line, and a text that was not all written is told of, in words that the code
-- has as bytes. Assumes nothing.
use Rattle.std.proofs.Common.{◌≡◌, ℕ, ◌∙◌, refl, ap, arith}
use Rattle.text.specs.Text.{refused_at_line}
use Rattle.text.proofs.Lines.{all_put}
use Rattle.print.specs.Streams.{not_written}
use Rattle.print.specs.Prints.{Prints, refusal_line}
use Rattle.print.proofs.print.Goals as goal

pub returns-in-Err : goal.returns-in-Err
unfolding Prints refusal_line
returns-in-Err g c =
    let line = all_put c.new-line.ensures c.put_refused_at.ensures.put c.deref.ensures.0 ∙ ap (λ number. refused_at_line number c.in-Err.refusal.place) c.number.ensures in
    rw c.in-Err.is (record { kept = refl; whole = _; told = rw line at c.write_all.ensures })

pub returns-then-not-write_all : goal.returns-then-not-write_all
unfolding Prints not_written
returns-then-not-write_all g c =
    rw c.in-Ok.is (record {
      whole = _;
      told = c.write_all-in-Ok.ensures;
      kept = λ all. absurd (let z : ◌≡◌ {A = ℕ} 0 1 = cc in omega arith);
      failed = λ part. (_, c.write_all-then-not-write_all.ensures);
    })

pub returns-else-not-write_all : goal.returns-else-not-write_all
unfolding Prints
returns-else-not-write_all g c =
    rw c.in-Ok.is (record {
      whole = _;
      told = c.write_all-in-Ok.ensures;
      kept = λ all. refl;
      failed = λ part. absurd (let z : ◌≡◌ {A = ℕ} 0 1 = cc in omega arith);
    })
