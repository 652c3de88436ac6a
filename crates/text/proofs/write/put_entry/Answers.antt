-- `text::write::put_entry` meets its contract: n and k, and count, rank and slots behind them. Assumes nothing.
use Rattle.std.proofs.Common.{arith, rules, length}
use Rattle.rows.specs.Row.{at}
use Rattle.line.specs.Decimal.{ended}
use Rattle.text.proofs.Lines.{entry_put, longer, ended_most}
use Rattle.text.proofs.write.put_entry.Goals as goal

pub put_ended-requires : goal.put_ended-requires
put_ended-requires g c = (search rules, omega (arith, ended_most (length c.args.modules.now) 32 (omega arith)))

pub put_ended-requires-2 : goal.put_ended-requires-2
put_ended-requires-2 g c =
    (search rules, omega (arith, longer c.args.out.now.items (ended (length c.args.modules.now) 32) c.put_ended.ensures, ended_most (length c.args.modules.now) 32 (omega arith), ended_most c.args.k 32 (omega arith)))

pub put_slots-requires : goal.put_slots-requires
put_slots-requires g c =
    (search rules, (omega (arith, longer c.args.out.now.items (ended (length c.args.modules.now) 32) c.put_ended.ensures, longer c.put_ended.new.out.items (ended c.args.k 32) c.put_ended-2.ensures, ended_most (length c.args.modules.now) 32 (omega arith), ended_most c.args.k 32 (omega arith)), c.requires.1, c.requires.2))

pub returns : goal.returns
returns g c =
    let a = c.args in
    record {
      put = entry_put a.out.now.items (length a.modules.now) a.k a.count a.rank (at a.modules.now) (at a.settings.now) c.put_ended.ensures c.put_ended-2.ensures c.put_slots.ensures.put;
      upper_bound = omega (arith, longer a.out.now.items (ended (length a.modules.now) 32) c.put_ended.ensures, longer c.put_ended.new.out.items (ended a.k 32) c.put_ended-2.ensures, c.put_slots.ensures.upper_bound, ended_most (length a.modules.now) 32 (omega arith), ended_most a.k 32 (omega arith));
    }
