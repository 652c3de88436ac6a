-- `entry::asked::Entry::rank` meets its contract: the arrangement is written into the first n places of its rows, and its rank depends on those
-- alone. Assumes nothing.
use mathlib.Core.Path.{sym, ◌∙◌}
use Rattle.arrangement.proofs.Validity.{valid_ext}
use Rattle.order.proofs.Ranks.{rank_ext}
use Rattle.book.specs.Read.{rank_of}
use Rattle.book.proofs.Checks.{entry_asked, written_taken, written_at}
use Rattle.entry.proofs.asked.Entry.rank.Goals as goal

pub invariant_of-rank : goal.invariant_of-rank
invariant_of-rank c =
    let told = c.slots-n.ensures in
    record { permitted = rw (told.0, c.settings-k.ensures.0) (entry_asked _ c.args.self.fine).is.sizes }

pub invariant_of-rank-2 : goal.invariant_of-rank-2
invariant_of-rank-2 c =
    let told = c.slots-n.ensures in
    record {
      modules_long = written_taken _ _ (sym told.0) c.write.ensures.modules_after;
      settings_long = written_taken _ _ (sym told.0) c.write.ensures.settings_after;
      valid =
          valid_ext (λ i l. sym (written_at _ _ (sym told.0) c.write.ensures.modules_after i l))
          (λ i l. sym (written_at _ _ (sym told.0) c.write.ensures.settings_after i l))
          (rw (told.0, c.settings-k.ensures.0) (entry_asked _ c.args.self.fine).body);
    }

pub returns : goal.returns
unfolding rank_of
returns c =
    let told = c.slots-n.ensures in
    c.rank.ensures ∙
    rank_ext _ _ _ _ _ _ (written_at _ _ (sym told.0) c.write.ensures.modules_after) (written_at _ _ (sym told.0) c.write.ensures.settings_after) ∙
    rw (told.0, c.settings-k.ensures.0)
