-- `text::write::put_refused` meets its contract: the word, and the number with a newline behind it. Assumes nothing.
use Rattle.std.proofs.Common.{arith, rules, ap, ◌∙◌, ◌++◌}
use Rattle.line.specs.Decimal.{ended}
use Rattle.text.specs.Text.{refused_word}
use Rattle.text.proofs.Lines.{refused_put, longer, ended_most}
use Rattle.text.proofs.write.put_refused.Goals as goal

pub put_ended-requires : goal.put_ended-requires
unfolding refused_word
put_ended-requires g c =
    (search rules, omega (arith, longer c.args.out.now.items refused_word c.put_text.ensures, ended_most c.from.result 10 (omega arith)))

pub returns : goal.returns
unfolding refused_word
returns g c = record {
  put = refused_put c.args.out.now.items c.args.number c.put_text.ensures (c.put_ended.ensures ∙ ap (λ x. c.put_text.new.out.items ++ ended x 10) c.from.ensures);
  upper_bound = omega (arith, longer c.args.out.now.items refused_word c.put_text.ensures, longer c.put_text.new.out.items (ended c.from.result 10) c.put_ended.ensures, ended_most c.from.result 10 (omega arith));
}
