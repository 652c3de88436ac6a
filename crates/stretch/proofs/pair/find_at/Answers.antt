-- `stretch::pair::find_at` meets its contract: the arrangement of the rank is written, and the module is looked for in it. Assumes
-- nothing.
use Rattle.stretch.proofs.Seats.{written_valid, seat_written}
use Rattle.stretch.proofs.pair.find_at.Goals as goal

pub invariant_of-arrangement-clause-valid : goal.invariant_of-arrangement-clause-valid
invariant_of-arrangement-clause-valid c =
    let start = c.args.start in
    written_valid _ _ _ c.write.ensures.modules_after c.write.ensures.settings_after start.sizes.permitted.k_low start.below

pub returns : goal.returns
returns c =
    seat_written _ _ _ c.write.ensures.modules_after c.write.ensures.settings_after c.find.ensures
