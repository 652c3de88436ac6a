-- `line::end_of` meets its contract: the line ends behind the first newline, or with the input. Assumes nothing.
use Rattle.std.proofs.Common.{sym}
use Rattle.line.proofs.Ends.{ends_at, ends_nowhere}
use Rattle.line.proofs.end_of.Goals as goal

pub returns-in-Some : goal.returns-in-Some
returns-in-Some c = sym (ends_at c.args.input.now c.in-Some.i (sym c.in-Some.ensures))

pub returns-in-None : goal.returns-in-None
returns-in-None c = sym (ends_nowhere c.args.input.now (sym c.in-None.ensures))
