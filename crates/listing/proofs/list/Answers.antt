use Rattle.std.proofs.Common.{sym, ap, ◌∙◌, arith}
use Rattle.std.specs.Result.{is_ok}
use Rattle.listing.proofs.Walks.{made, stands_first, few_slots, rank_told, moved, stands_next}
use Rattle.listing.proofs.list.Goals as goal

pub unwrap-walk-requires : goal.unwrap-walk-requires
unwrap-walk-requires g c = ap is_ok (c.make.ensures ∙ made _ _ _ _ c.requires)

pub loop-init : goal.loop-init
loop-init g c = stands_first _ _ _ _ c.requires (sym c.make.ensures ∙ c.unwrap-walk.ensures)

pub unwrap-rank-requires : goal.unwrap-rank-requires
unwrap-rank-requires g c = ap is_ok (c.rank.ensures ∙ rank_told c.loop.invariant)

pub unwrap-moved-requires : goal.unwrap-moved-requires
unwrap-moved-requires g c = ap is_ok (c.next.ensures ∙ moved c.loop.invariant)

pub put_line-requires : goal.put_line-requires
put_line-requires g c = omega (arith, few_slots c.loop.invariant, c.make_room.ensures)

pub loop-preserved : goal.loop-preserved
loop-preserved g c = stands_next c.loop.invariant (sym c.next.ensures ∙ c.unwrap-moved.ensures)

pub unwrap-requires : goal.unwrap-requires
unwrap-requires g c = ap is_ok (c.rank-2.ensures ∙ rank_told c.loop.invariant)
