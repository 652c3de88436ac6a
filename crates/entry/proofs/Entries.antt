-- The entry that is made of a book and a number, or the refusal, is settled by them. Assumes nothing.
use Rattle.std.proofs.Common.{IfOk, Result, Ok, Err}
use mathlib.Core.Path.{◌≡◌, sym, ◌∙◌}
use mathlib.Core.List.{List}
use Prim.Native.Nat.{ℕ}
use Rattle.sizes.specs.declared.Refusal.{Refusal}
use Rattle.sizes.specs.Refusal.{checked}
use Rattle.book.specs.Format.{format_one}
use Rattle.book.specs.Read.{asked_verdict}
use Rattle.entry.specs.declared.asked.Entry.{Entry}

-- what the making of an entry promises
pub record Made (xs : List ℕ) (entry : ℕ) (r : Result Entry Refusal) : Type 0 where
  pub verdict : checked r ≡ asked_verdict format_one xs entry
  pub entry_is : IfOk r (λ made. (made.book.now ≡ xs) × (made.number ≡ entry))

-- two answers that keep that promise are the same refusal, or entries of the same bytes and number
abbrev pub Alike : Result Entry Refusal → Result Entry Refusal → Type 0
Alike (Ok a) (Ok b) = (a.book.now ≡ b.book.now) × (a.number ≡ b.number)
Alike (Err a) (Err b) = a ≡ b
Alike r s = ⊥

pub one_entry : {xs : List ℕ} {entry : ℕ} (r s : Result Entry Refusal) → Made xs entry r → Made xs entry s → Alike r s
one_entry (Ok a) (Ok b) p q = (p.entry_is.0 ∙ sym q.entry_is.0, p.entry_is.1 ∙ sym q.entry_is.1)
one_entry (Ok a) (Err b) p q = cc (p.verdict, q.verdict)
one_entry (Err a) (Ok b) p q = cc (p.verdict, q.verdict)
one_entry (Err a) (Err b) p q = cc (p.verdict, q.verdict)
