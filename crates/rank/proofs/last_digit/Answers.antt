-- `rank::last_digit` meets its contract: it is the definition. Assumes nothing.
use Rattle.order.specs.Rank.{last_digit_lem}
use borrow.Author.Rules.{rules}
use Rattle.rank.proofs.last_digit.Goals as goal

pub returns : goal.returns
unfolding last_digit_lem
returns c = search rules
