-- The line of an arrangement depends on its n slots alone, so it is the same of the part of a walk that is lent. Assumes nothing.
use Rattle.std.proofs.Common.{◌≡◌, ◌∙◌, ap, ℕ, List, length, take}
use lib.Seq.{get_or-take}
use Rattle.rows.specs.Row.{at}
use Rattle.text.specs.Text.{slot_line}
use Rattle.text.proofs.Lines.{slot_line_ext}

pub line_of_places : (rank flip n : ℕ) (ms ss : List ℕ) → length (take n ms) ≡ n → slot_line rank flip (length (take n ms)) (at (take n ms)) (at (take n ss)) ≡ slot_line rank flip n (at ms) (at ss)
line_of_places rank flip n ms ss same =
    ap (λ m. slot_line rank flip m (at (take n ms)) (at (take n ss))) same ∙ slot_line_ext rank flip n (λ i l. get_or-take n ms i 0 l) (λ i l. get_or-take n ss i 0 l)
