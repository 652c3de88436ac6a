-- `flip::flip` meets its contract: the turned copies of the first j slots are written back, and behind them a flip
-- leaves every slot. Assumes nothing.
use Rattle.rows.proofs.Rows.{written_back}
use Rattle.flip.proofs.Flips.{module_behind, setting_behind}
use Rattle.flip.proofs.flip.Goals as goal

pub returns : goal.returns
returns c =
    let copies = c.turn-turned.ensures in record {
      modules_after = written_back _ _ _ _ copies.modules_value c.store.ensures c.requires.modules (λ i h l. module_behind _ _ i h);
      settings_after = written_back _ _ _ _ copies.settings_value c.store-2.ensures c.requires.settings (λ i h l. setting_behind _ _ _ i h);
    }
