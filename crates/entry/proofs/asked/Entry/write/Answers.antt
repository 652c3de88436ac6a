-- `entry::asked::Entry::write` meets its contract: the body is where it is expected, and has n bytes. Assumes nothing.
use Prim.Native.Nat.{◌+◌, ◌≤◌}
use mathlib.Core.Path.{◌∙◌}
use native.Mathlib.Omega.{arith}
use lib.ListN.{length}
use Rattle.book.specs.Format.{format_one}
use Rattle.book.proofs.Checks.{entry_asked, body_modules, body_settings}
use Rattle.entry.proofs.asked.Entry.write.Goals.{After-body-from}
use Rattle.entry.proofs.asked.Entry.write.Goals as goal

-- the body ends before the book does
ends : (c : After-body-from) → let a = c.args in c.body-from.result + length a.modules.now ≤ length a.self.book.now
unfolding format_one
ends c = omega (arith, c.body-from.ensures, (entry_asked _ c.args.self.fine).body_ends, c.requires.0)

pub overflow_add-from : goal.overflow_add-from
overflow_add-from c = omega (arith, ends (goal.at.overflow_add-from c).After-body-from)

pub slice_bounds-take_body-end : goal.slice_bounds-take_body-end
slice_bounds-take_body-end c = omega (arith, ends (goal.at.slice_bounds-take_body-end c).After-body-from)

pub returns : goal.returns
returns c =
    let inside = ends (goal.at.returns c).After-body-from in
    record {
      modules_after = c.take_body.ensures.modules_after ∙ body_modules _ _ c.body-from.ensures c.requires.0 inside;
      settings_after = c.take_body.ensures.settings_after ∙ body_settings _ _ c.body-from.ensures c.requires.0 inside;
    }
