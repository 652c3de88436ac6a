-- `text::write::put_ended` meets its contract: the number, and the byte behind it. Assumes nothing.
use Rattle.std.proofs.Common.{arith, rules}
use Rattle.line.specs.Decimal.{decimal, ended}
use Rattle.text.proofs.Lines.{longer, joined, ended_long}
use Rattle.text.proofs.write.put_ended.Goals as goal

pub put_number-requires : goal.put_number-requires
put_number-requires g c = (search rules, omega (arith, ended_long c.args.number c.args.end))

pub push-requires : goal.push-requires
push-requires g c = (search rules, omega (arith, ended_long c.args.number c.args.end, longer c.args.out.now.items (decimal c.args.number) c.put_number.ensures))

pub returns : goal.returns
unfolding ended
returns g c = joined c.args.out.now.items (decimal c.args.number) _ c.put_number.ensures c.push.ensures.items
