-- `text::write::put_slot` meets its contract: the space, the module with its colon, and the setting. Assumes nothing.
use Rattle.std.proofs.Common.{arith, rules, ap, ◌∙◌, ◌++◌}
use Rattle.line.specs.Decimal.{decimal, ended}
use Rattle.line.proofs.Decimals.{long_byte}
use Rattle.text.proofs.Lines.{slot_put, longer, ended_long}
use Rattle.text.proofs.write.put_slot.Goals as goal

pub returns : goal.returns
returns g c =
    slot_put c.args.out.now.items c.args.number c.args.setting c.push.ensures.items
    (c.put_ended.ensures ∙ ap (λ x. c.push.new.self.items ++ ended x 58) c.from.ensures)
    (c.put_number.ensures ∙ ap (λ x. c.put_ended.new.out.items ++ decimal x) c.from-2.ensures)

pub put_ended-requires : goal.put_ended-requires
put_ended-requires g c =
    (search rules, omega (arith, c.push.ensures.len, ended_long c.from.result 58, long_byte c.from.result (omega arith)))

pub put_number-requires : goal.put_number-requires
put_number-requires g c =
    (search rules, omega (arith, c.push.ensures.len, longer c.push.new.self.items (ended c.from.result 58) c.put_ended.ensures, ended_long c.from.result 58, long_byte c.from.result (omega arith), long_byte c.from-2.result (omega arith)))
