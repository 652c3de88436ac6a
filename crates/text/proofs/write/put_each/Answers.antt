use Rattle.std.proofs.Common.{arith, rules, length-append}
use Rattle.text.proofs.Lines.{bytes_fit, listed_first, slot_room, listed_on}
use Rattle.text.proofs.write.put_each.Goals as goal

pub loop-module-init : goal.loop-module-init
loop-module-init g c =
    (search rules, search rules, listed_first c.args.out.now.items c.args.modules.now c.args.settings.now (search rules) (search rules))

pub put_slot-requires : goal.put_slot-requires
put_slot-requires g c =
    (search rules, omega (arith, slot_room c.args.out.now.items c.args.modules.now c.args.settings.now (bytes_fit c.args.modules.now c.type_inv.modules) (bytes_fit c.args.settings.now c.type_inv.settings) c.loop-module.invariant.2 c.in-Some.ensures.steps.0, c.requires.0))

pub loop-module-preserved : goal.loop-module-preserved
loop-module-preserved g c =
    (search rules, search rules, rw length-append (listed_on c.args.out.now.items c.args.modules.now c.args.settings.now c.loop-module.invariant.2 c.in-Some.ensures.steps.0 c.in-Some.ensures.steps.1 c.put_slot.ensures))
