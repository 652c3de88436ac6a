-- `text::write::put_refused_at` meets its contract: the word, and the two numbers with their ends behind it. Assumes nothing.
use Rattle.std.proofs.Common.{arith, rules, ap, ◌∙◌, ◌++◌}
use Rattle.line.specs.Decimal.{ended}
use Rattle.text.specs.Text.{refused_word}
use Rattle.text.proofs.Lines.{refused_at_put, longer, ended_most}
use Rattle.text.proofs.write.put_refused_at.Goals as goal

pub put_ended-requires : goal.put_ended-requires
unfolding refused_word
put_ended-requires g c =
    (search rules, omega (arith, longer c.args.out.now.items refused_word c.put_text.ensures, ended_most c.from.result 32 (omega arith)))

pub put_ended-requires-2 : goal.put_ended-requires-2
unfolding refused_word
put_ended-requires-2 g c =
    (search rules, omega (arith, longer c.args.out.now.items refused_word c.put_text.ensures, longer c.put_text.new.out.items (ended c.from.result 32) c.put_ended.ensures, ended_most c.from.result 32 (omega arith), ended_most c.from-2.result 10 (omega arith)))

pub returns : goal.returns
unfolding refused_word
returns g c = record {
  put = refused_at_put c.args.out.now.items c.args.number c.args.place c.put_text.ensures (c.put_ended.ensures ∙ ap (λ x. c.put_text.new.out.items ++ ended x 32) c.from.ensures) (c.put_ended-2.ensures ∙ ap (λ x. c.put_ended.new.out.items ++ ended x 10) c.from-2.ensures);
  upper_bound = omega (arith, longer c.args.out.now.items refused_word c.put_text.ensures, longer c.put_text.new.out.items (ended c.from.result 32) c.put_ended.ensures, longer c.put_ended.new.out.items (ended c.from-2.result 10) c.put_ended-2.ensures, ended_most c.from.result 32 (omega arith), ended_most c.from-2.result 10 (omega arith));
}
