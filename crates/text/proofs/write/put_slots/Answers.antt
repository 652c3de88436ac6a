-- `text::write::put_slots` meets its contract: the rank, the flip, the slots and the newline. Assumes nothing.
use Rattle.std.proofs.Common.{arith, rules, length}
use Rattle.rows.specs.Row.{at}
use Rattle.line.specs.Decimal.{decimal, ended}
use Rattle.line.proofs.Decimals.{long_most}
use Rattle.text.specs.Text.{slots}
use Rattle.text.proofs.Lines.{bytes_fit, longer, ended_most, slots_short, slot_line_short, slots_put}
use Rattle.text.proofs.write.put_slots.Goals as goal

pub put_ended-requires : goal.put_ended-requires
put_ended-requires g c = (search rules, omega (arith, ended_most c.args.rank 32 (omega arith)))

pub put_number-requires : goal.put_number-requires
put_number-requires g c =
    (search rules, omega (arith, longer c.args.out.now.items (ended c.args.rank 32) c.put_ended.ensures, ended_most c.args.rank 32 (omega arith), long_most c.args.flip (omega arith)))

pub put_each-requires : goal.put_each-requires
put_each-requires g c =
    (search rules, (omega (arith, longer c.args.out.now.items (ended c.args.rank 32) c.put_ended.ensures, longer c.put_ended.new.out.items (decimal c.args.flip) c.put_number.ensures, ended_most c.args.rank 32 (omega arith), long_most c.args.flip (omega arith)), c.requires.2))

pub push-requires : goal.push-requires
push-requires g c =
    let ms = c.args.modules.now in
    let ss = c.args.settings.now in
    let few = slots_short (length ms) (at ms) (at ss) (λ i h. bytes_fit ms c.type_inv.modules i) (λ i h. bytes_fit ss c.type_inv.settings i) in
    (search rules, omega (arith, longer c.args.out.now.items (ended c.args.rank 32) c.put_ended.ensures, longer c.put_ended.new.out.items (decimal c.args.flip) c.put_number.ensures, longer c.put_number.new.out.items (slots (length ms) (at ms) (at ss)) c.put_each.ensures, ended_most c.args.rank 32 (omega arith), long_most c.args.flip (omega arith), few))

pub returns : goal.returns
returns g c =
    let ms = c.args.modules.now in
    let ss = c.args.settings.now in
    let put = slots_put c.args.out.now.items c.args.rank c.args.flip (length ms) (at ms) (at ss) c.put_ended.ensures c.put_number.ensures c.put_each.ensures c.push.ensures.items in
    record {
      put = put;
      upper_bound = omega (arith, longer c.args.out.now.items _ put, slot_line_short c.args.rank c.args.flip (length ms) (at ms) (at ss) (omega arith) (omega arith) c.requires.1 (λ i h. bytes_fit ms c.type_inv.modules i) (λ i h. bytes_fit ss c.type_inv.settings i));
    }
