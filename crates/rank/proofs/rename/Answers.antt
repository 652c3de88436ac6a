use mathlib.Core.Path.{◌≡◌}
use native.Mathlib.Nat.{le_refl}
use native.Mathlib.Omega.{arith}
use Rattle.rows.specs.Row.{at}
use Rattle.rows.proofs.Rows.{begun, stored, unread, rewritten}
use Rattle.rows.specs.Copy.{wide}
use Rattle.order.proofs.Renaming.{module_renamed, setting_renamed}
use Rattle.rank.proofs.rename.Goals as goal

pub loop-i-init : goal.loop-i-init
loop-i-init c = (begun _ _, begun _ _)

pub rename_module-requires : goal.rename_module-requires
rename_module-requires c =
    let low = c.requires.bounded.modules_low c.loop-i.i (omega arith) in
    let same = unread _ _ _ c.loop-i.i c.loop-i.invariant.0 (le_refl _) in
    omega (arith, c.requires.last)

pub rename_setting-requires : goal.rename_setting-requires
rename_setting-requires c =
    let low = c.requires.bounded.settings_low c.loop-i.i (omega arith) in
    let same = unread _ _ _ c.loop-i.i c.loop-i.invariant.1 (le_refl _) in
    (omega arith, c.requires.bounded.settings_low c.args.m (omega arith), c.requires.k_high)

pub loop-i-preserved : goal.loop-i-preserved
loop-i-preserved c =
    let rows = c.requires.bounded in
    let M = at c.args.modules.now in
    let S = at c.args.settings.now in
    let module_was = unread _ _ _ c.loop-i.i c.loop-i.invariant.0 (le_refl _) in
    let setting_was = unread _ _ _ c.loop-i.i c.loop-i.invariant.1 (le_refl _) in (
      stored _ _ _ c.loop-i.invariant.0 (omega (arith, rows.modules_wide)) (module_renamed _ c.args.k M S _ module_was c.rename_module.ensures),
      stored _ _ _ c.loop-i.invariant.1 (omega (arith, rows.settings_wide)) (setting_renamed c.args.m _ M S _ module_was setting_was c.rename_setting.ensures),
    )

pub returns : goal.returns
returns c =
    let rows = c.requires.bounded in
    let all : c.loop-i.i ≡ wide = omega arith in
    record {
      modules_after = rewritten _ _ _ _ c.loop-i.invariant.0 all rows.modules_wide;
      settings_after = rewritten _ _ _ _ c.loop-i.invariant.1 all rows.settings_wide;
    }
