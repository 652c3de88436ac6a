-- `unrank::unrank_slots` meets its contract. The call on one slot fewer takes the lower digits off; what is left gives
-- the next, by whose cell the slots are restored. The measure is n. Assumes nothing.
use Rattle.unrank.proofs.+unrank_slots.Given as goal

abbrev pub decreases-unrank_slots : goal.decreases-unrank_slots
decreases-unrank_slots l = l.n
