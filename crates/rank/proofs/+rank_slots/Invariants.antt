-- `rank::rank_slots` meets its contract. Of one slot the rank is the setting; of more, the call on one slot fewer is
-- handed the rows renamed, and the last digit is put above their rank. The measure is n. Assumes nothing.
use Rattle.rank.proofs.+rank_slots.Given as goal

abbrev pub decreases-rank_slots : goal.decreases-rank_slots
decreases-rank_slots l = l.n
