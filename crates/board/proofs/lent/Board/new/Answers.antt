-- `board::lent::Board::new` meets its contract: what the check lets pass has permitted sizes, and buffers of n and n + 1 bytes. Assumes
-- nothing.
use mathlib.Core.Path.{sym, ◌∙◌}
use native.Mathlib.Numerals.{add-one}
use Rattle.arrangement.proofs.Validity.{fit}
use Rattle.board.proofs.lent.Board.new.Goals as goal

pub invariant_of-result : goal.invariant_of-result
invariant_of-result c = record { permitted = (fit _ _ _ _ _ (sym c.in_ok-judge_buffers.ensures)).sizes }

pub invariant_of-result-2 : goal.invariant_of-result-2
invariant_of-result-2 c =
    let fits = fit _ _ _ _ _ (sym c.in_ok-judge_buffers.ensures) in record { counters_long = fits.one; pointers_long = fits.two ∙ add-one _ }
