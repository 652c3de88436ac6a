-- `text::write::put_next` meets its contract: the word, and the rank with a newline behind it. Assumes nothing.
use Rattle.std.proofs.Common.{arith, rules}
use Rattle.line.specs.Decimal.{ended}
use Rattle.text.specs.Text.{next_word}
use Rattle.text.proofs.Lines.{next_put, longer, ended_most}
use Rattle.text.proofs.write.put_next.Goals as goal

pub returns : goal.returns
unfolding next_word
returns g c = record {
  put = next_put c.args.out.now.items c.args.rank c.put_text.ensures c.put_ended.ensures;
  upper_bound = omega (arith, longer c.args.out.now.items next_word c.put_text.ensures, longer c.put_text.new.out.items (ended c.args.rank 10) c.put_ended.ensures, ended_most c.args.rank 10 (omega arith));
}

pub put_ended-requires : goal.put_ended-requires
unfolding next_word
put_ended-requires g c =
    (search rules, omega (arith, longer c.args.out.now.items next_word c.put_text.ensures, ended_most c.args.rank 10 (omega arith)))
