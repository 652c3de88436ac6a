-- `line::read` meets its contract: the four numbers stand one behind the other, up to the end. Assumes nothing.
use Rattle.std.proofs.Common.{sym}
use Rattle.std.proofs.lemmas.Bool.{eqb-false, eqb-true}
use Rattle.line.proofs.Readings.{bad_first, bad_second, bad_third, bad_fourth, bad_behind, line_read}
use Rattle.line.proofs.read.Goals as goal

pub returns-in_err-n : goal.returns-in_err-n
returns-in_err-n c = rw c.from_residual.ensures (bad_first _ c.in_err-n.ensures)

pub returns-in_err-k : goal.returns-in_err-k
returns-in_err-k c = rw c.from_residual-in_err-k.ensures (bad_second c.in_ok-n.ensures c.in_err-k.ensures)

pub returns-in_err-rank : goal.returns-in_err-rank
returns-in_err-rank c = rw c.from_residual-in_err-rank.ensures (bad_third c.in_ok-n.ensures c.in_ok-k.ensures c.in_err-rank.ensures)

pub returns-in_err-count : goal.returns-in_err-count
returns-in_err-count c =
    rw c.from_residual-in_err-count.ensures (bad_fourth c.in_ok-n.ensures c.in_ok-k.ensures c.in_ok-rank.ensures c.in_err-count.ensures)

pub returns-then-not-is_empty : goal.returns-then-not-is_empty
returns-then-not-is_empty c =
    bad_behind c.in_ok-n.ensures c.in_ok-k.ensures c.in_ok-rank.ensures c.in_ok-count.ensures (eqb-false _ _ (sym c.if-not-is_empty.ensures))

pub returns : goal.returns
returns c = line_read c.in_ok-n.ensures c.in_ok-k.ensures c.in_ok-rank.ensures c.in_ok-count.ensures (eqb-true _ _ (sym c.if-not-is_empty.ensures))
