-- `listing::put_line` meets its contract: the line has the first n places of the walk alone. Assumes nothing.
use Rattle.std.proofs.Common.{◌++◌, ap, ◌∙◌, rules}
use lib.Seq.{length-take-le}
use Rattle.listing.proofs.Lines.{line_of_places}
use Rattle.listing.proofs.put_line.Goals as goal

pub returns-clause-put : goal.returns-clause-put
returns-clause-put c =
    let a = c.args in
    c.put_slots.ensures.put ∙ ap (λ line. a.out.now.items ++ line) (line_of_places a.rank a.flip a.walk.n a.walk.modules a.walk.settings (length-take-le a.walk.n a.walk.modules (search rules)))
