-- `text::write::put_head` meets its contract: the word, and the four numbers with their ends behind it. Assumes nothing.
use Rattle.std.proofs.Common.{arith, rules}
use Rattle.line.specs.Decimal.{ended}
use Rattle.text.specs.Text.{walk_word}
use Rattle.text.proofs.Lines.{head_put, longer, ended_most, head_short}
use Rattle.text.proofs.write.put_head.Goals as goal

pub put_ended-requires : goal.put_ended-requires
unfolding walk_word
put_ended-requires g c =
    let a = c.args.numbers in
    (search rules, omega (arith, longer c.args.out.now.items walk_word c.put_text.ensures, ended_most a.n 32 (omega arith)))

pub put_ended-requires-2 : goal.put_ended-requires-2
unfolding walk_word
put_ended-requires-2 g c =
    let a = c.args.numbers in
    (search rules, omega (arith, longer c.args.out.now.items walk_word c.put_text.ensures, longer c.put_text.new.out.items (ended a.n 32) c.put_ended.ensures, ended_most a.n 32 (omega arith), ended_most a.k 32 (omega arith)))

pub put_ended-requires-3 : goal.put_ended-requires-3
unfolding walk_word
put_ended-requires-3 g c =
    let a = c.args.numbers in
    (search rules, omega (arith, longer c.args.out.now.items walk_word c.put_text.ensures, longer c.put_text.new.out.items (ended a.n 32) c.put_ended.ensures, longer c.put_ended.new.out.items (ended a.k 32) c.put_ended-2.ensures, ended_most a.n 32 (omega arith), ended_most a.k 32 (omega arith), ended_most a.rank 32 (omega arith)))

pub put_ended-requires-4 : goal.put_ended-requires-4
unfolding walk_word
put_ended-requires-4 g c =
    let a = c.args.numbers in
    (search rules, omega (arith, longer c.args.out.now.items walk_word c.put_text.ensures, longer c.put_text.new.out.items (ended a.n 32) c.put_ended.ensures, longer c.put_ended.new.out.items (ended a.k 32) c.put_ended-2.ensures, longer c.put_ended-2.new.out.items (ended a.rank 32) c.put_ended-3.ensures, ended_most a.n 32 (omega arith), ended_most a.k 32 (omega arith), ended_most a.rank 32 (omega arith), ended_most a.count 10 (omega arith)))

pub returns : goal.returns
unfolding walk_word
returns g c =
    let a = c.args.numbers in
    let out = c.args.out.now.items in
    let put = head_put out a.n a.k a.rank a.count c.put_text.ensures c.put_ended.ensures c.put_ended-2.ensures c.put_ended-3.ensures c.put_ended-4.ensures in
    record {
      put = put;
      upper_bound = omega (arith, longer out _ put, head_short a.n a.k a.rank a.count (omega arith) (omega arith) (omega arith) (omega arith));
    }
