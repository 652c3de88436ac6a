-- `board::read::read_lent` meets its contract: the board of what was read is held to the one that was lent. Assumes nothing.
use mathlib.Core.Path.{sym}
use Rattle.sizes.specs.declared.Fault.TheVariants.{Board}
use Rattle.sizes.proofs.Refusals.{left_with, no_fault}
use Rattle.board.proofs.Checks.{held}
use Rattle.board.proofs.Readings.{ReadOff, digits_asked, board_found, counters_differ, pointers_differ, counters_held, pointers_held}
use Rattle.board.proofs.read.read_lent.Goals.{After-read_digits-read}
use Rattle.board.proofs.read.read_lent.Goals as goal

-- what was read off the two buffers
off : (c : After-read_digits-read) →
    let b = c.args.board in ReadOff b.sizes.n b.sizes.k b.counters.now b.pointers.now c.read_digits-read.result
off c = record { lent = held c.args.board; read_is = c.read_digits-read.ensures }

pub returns-in_err-refuse_if : goal.returns-in_err-refuse_if
returns-in_err-refuse_if c =
    rw (left_with c.from_residual.ensures.1)
    (counters_differ (off (goal.at.returns-in_err-refuse_if c).After-read_digits-read) c.in_err-refuse_if.ensures
    (counters_held _ _ _ c.counters-own_counters.ensures c.ne.ensures).1)

pub returns-in_err-refuse_if-2 : goal.returns-in_err-refuse_if-2
returns-in_err-refuse_if-2 c =
    rw (left_with c.from_residual-in_err-refuse_if-2.ensures.1)
    (pointers_differ (off (goal.at.returns-in_err-refuse_if-2 c).After-read_digits-read) c.in_err-refuse_if-2.ensures
    (pointers_held _ _ _ c.pointers-own_pointers.ensures c.ne-2.ensures).1)

pub rank_of-requires : goal.rank_of-requires
rank_of-requires c = digits_asked (off (goal.at.rank_of-requires c).After-read_digits-read)

pub returns : goal.returns
returns c =
    board_found (off (goal.at.returns c).After-read_digits-read)
    ((counters_held _ _ _ c.counters-own_counters.ensures c.ne.ensures).0 (no_fault Board _ (sym c.in_ok-refuse_if.ensures)))
    ((pointers_held _ _ _ c.pointers-own_pointers.ensures c.ne-2.ensures).0 (no_fault Board _ (sym c.in_ok-refuse_if-2.ensures))) c.rank_of.ensures
