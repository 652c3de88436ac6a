-- `book_write::in_byte` meets its contract: the number fits a byte where it is below 256. Assumes nothing.
use Rattle.std.proofs.Common.{Ok, Err, Result}
use Rattle.std.specs.Result.{OkIff, result_unwrap_or}
use Rattle.std.proofs.lemmas.Result.{OkIff-at_ok, OkIff-at_err}
use Prim.Native.Nat.{ℕ, ◌<◌}
use mathlib.Core.Path.{◌≡◌, refl, sym, ◌∙◌}
use native.Mathlib.Omega.{arith}
use Rattle.rows.specs.Search.{if_lt}
use Rattle.rows.proofs.Cases.{if_lt_lem, if_ge}
use Rattle.book_write.specs.Lines.{in_byte_lem}
use Rattle.book_write.proofs.in_byte.Goals as goal

in_byte : {E : Type 0} (r : Result ℕ E) (x : ℕ) → OkIff r (x < 256) x → result_unwrap_or r 255 ≡ if_lt 255 x 255 x
in_byte {E} (Ok v) x fits =
    let is : (x < 256) × (v ≡ x) = OkIff-at_ok {E = E} (Ok v) (x < 256) x v fits refl in is.1 ∙ sym (if_ge _ _ (omega (arith, is.0)))
in_byte {E} (Err e) x fits =
    let large : x < 256 → ⊥ = OkIff-at_err {E = E} (Err e) (x < 256) x e fits refl in
    let high : 255 < x = omega (arith, large) in sym (if_lt_lem _ _ high)

pub returns : goal.returns
unfolding in_byte_lem
returns c = c.unwrap_or.ensures ∙ in_byte c.try_from.result c.args.number c.try_from.ensures
