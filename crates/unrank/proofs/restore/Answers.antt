use mathlib.Core.Path.{◌≡◌, ap}
use native.Mathlib.Nat.{le_refl}
use native.Mathlib.Omega.{arith}
use lib.ListN.{set}
use Rattle.rows.specs.Row.{at}
use Rattle.rows.proofs.Rows.{begun, stored, unread, rewritten}
use Rattle.rows.specs.Copy.{wide}
use Rattle.order.proofs.Renaming.{module_restored, setting_restored}
use Rattle.unrank.proofs.restore.Goals as goal

pub loop-i-init : goal.loop-i-init
loop-i-init c = (begun _ _, begun _ _)

pub restore_module-requires : goal.restore_module-requires
restore_module-requires c =
    let low = c.requires.bounded.modules_low c.loop-i.i (omega arith) in
    let same = unread _ _ _ c.loop-i.i c.loop-i.invariant.0 (le_refl _) in
    omega (arith, c.requires.cell, c.requires.m_high)

pub restore_setting-requires : goal.restore_setting-requires
restore_setting-requires c =
    let module_low = c.requires.bounded.modules_low c.loop-i.i (omega arith) in
    let setting_low = c.requires.bounded.settings_low c.loop-i.i (omega arith) in
    let module_was = unread _ _ _ c.loop-i.i c.loop-i.invariant.0 (le_refl _) in
    let setting_was = unread _ _ _ c.loop-i.i c.loop-i.invariant.1 (le_refl _) in
    omega (arith, c.requires.cell, c.requires.m_high, c.requires.k_high)

pub loop-i-preserved : goal.loop-i-preserved
loop-i-preserved c =
    let rows = c.requires.bounded in
    let M = at c.args.modules.now in
    let S = at c.args.settings.now in
    let module_was = unread _ _ _ c.loop-i.i c.loop-i.invariant.0 (le_refl _) in
    let setting_was = unread _ _ _ c.loop-i.i c.loop-i.invariant.1 (le_refl _) in (
      stored _ _ _ c.loop-i.invariant.0 (omega (arith, rows.modules_wide)) (module_restored _ c.args.k M S _ module_was _ c.restore_module.ensures),
      stored _ _ _ c.loop-i.invariant.1 (omega (arith, rows.settings_wide)) (setting_restored _ _ M S _ module_was _ _ setting_was c.restore_setting.ensures),
    )

pub returns : goal.returns
returns c =
    let rows = c.requires.bounded in
    let all : c.loop-i.i ≡ wide = omega arith in record {
      modules_after = ap (λ xs. set xs c.args.m c.args.v) (rewritten _ _ _ _ c.loop-i.invariant.0 all rows.modules_wide);
      settings_after = ap (λ xs. set xs c.args.m c.args.c) (rewritten _ _ _ _ c.loop-i.invariant.1 all rows.settings_wide);
    }
