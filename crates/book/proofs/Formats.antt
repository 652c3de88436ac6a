-- What the laws of books ask of a format: its bodies are read back as they were written and written back as they were read. Format 1
-- keeps that, since a module is below 32: a byte divided by 32 is its setting, and the remainder its module. Assumes nothing.
use Prim.Native.Nat.{ℕ, ◌+◌, ◌*◌, ◌/◌, ◌%◌, ◌≤◌, ◌<◌}
use mathlib.Core.Path.{◌≡◌, ◌∙◌, ap, ap₂}
use native.Mathlib.Omega.{arith}
use lib.Arith.{digits_div, digits_mod}
use Rattle.sizes.specs.Sizes.{Permitted, most_slots}
use Rattle.arrangement.specs.Arrangement.{Valid}
use Rattle.book.specs.Format.{Format, format_one}

-- B is the body of the arrangement M, S
abbrev pub IsBody : Format → ℕ → (ℕ → ℕ) → (ℕ → ℕ) → (ℕ → ℕ) → Type 0
IsBody format n M S B = (p : ℕ) → p < format.size n → B p ≡ format.byte M S p

pub record Sound (format : Format) : Type 0 where
  -- no body is long
  pub short : (n : ℕ) → n ≤ most_slots → format.size n ≤ 255
  -- a body depends on the n slots alone
  pub same_body : (n : ℕ) (M S M' S' : ℕ → ℕ) → ((i : ℕ) → i < n → M i ≡ M' i) → ((i : ℕ) → i < n → S i ≡ S' i) → IsBody format n M' S' (format.byte M S)
  -- it is read back
  pub module_back : (n k : ℕ) (M S B : ℕ → ℕ) → Permitted n k → Valid n k M S → IsBody format n M S B → (i : ℕ) → i < n → format.module_in B i ≡ M i
  pub setting_back : (n k : ℕ) (M S B : ℕ → ℕ) → Permitted n k → Valid n k M S → IsBody format n M S B → (i : ℕ) → i < n → format.setting_in B i ≡ S i
  -- and written back
  pub byte_back : (n : ℕ) (B : ℕ → ℕ) → IsBody format n (format.module_in B) (format.setting_in B) B

pub format_one_sound : Sound format_one
unfolding format_one
format_one_sound = record {
  short = λ n h. omega arith;
  same_body = λ n M S M' S' same_m same_s p l. ap₂ (λ s m. s * 32 + m) (same_s p l) (same_m p l);
  module_back = λ n k M S B sizes v body i l. ap (λ x. x % 32) (body i l) ∙ digits_mod (S i) (omega (arith, (v.cell i l).high, sizes.n_high));
  setting_back = λ n k M S B sizes v body i l. ap (λ x. x / 32) (body i l) ∙ digits_div (S i) (omega (arith, (v.cell i l).high, sizes.n_high));
  byte_back = λ n B p l. omega arith;
}
