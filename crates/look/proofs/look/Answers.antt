use Prim.Native.Nat.{◌-◌}
use mathlib.Core.Path.{◌≡◌, refl, sym}
use native.Mathlib.Omega.{arith}
use Rattle.look.proofs.Looks.{looking_first, stops_by_setting, stops_by_module, looking_on, look_all}
use Rattle.look.proofs.look.Goals as goal

pub loop-next-init : goal.loop-next-init
loop-next-init c = looking_first c.from-front.ensures refl c.raise-raised.ensures

pub returns-then-settings-next : goal.returns-then-settings-next
returns-then-settings-next c =
    stops_by_setting c.loop-next.invariant c.from-module.ensures refl c.expected.ensures (omega arith) (omega arith) c.if-settings-next.true

pub returns-then-further-reached : goal.returns-then-further-reached
returns-then-further-reached c =
    stops_by_module c.loop-next.invariant c.from-module.ensures refl c.expected.ensures (omega arith) (omega arith) c.if-settings-next.false c.offset-further.ensures c.if-further-reached.true

pub loop-next-preserved : goal.loop-next-preserved
loop-next-preserved c =
    looking_on c.loop-next.invariant c.from-module.ensures refl c.expected.ensures (omega arith) (omega arith) c.if-settings-next.false c.offset-further.ensures c.if-further-reached.false

pub returns : goal.returns
returns c =
    let inv = c.loop-next.invariant in
    let e : c.loop-next.next - 1 ≡ c.args.arrangement.sizes.n - 1 = omega (arith, c.args.arrangement.sizes.permitted.n_low) in
    sym (look_all _ _ _ _ (rw e at inv.none))
