-- What a program prints by the verdict on its input: a text where there is nothing to refuse, and else the line of the refusal.
use Rattle.std.specs.Prelude.{ℕ, List, Ok, Err}
use Rattle.std.specs.declared.option.Option.{Option}
use Rattle.sizes.specs.declared.Refusal.{Refusal}
use Rattle.sizes.specs.Refusal.{Verdict, fault_number}
use Rattle.text.specs.Text.{refused_at_line}
use Rattle.print.specs.Streams.{PrintsRefusal, PrintsText}

-- the line of a refusal, by its number in the table and its place
unfoldable pub refusal_line : Refusal → List ℕ
refusal_line refusal = refused_at_line (fault_number refusal.fault) refusal.place

-- what a verdict prints of a text: the text, or the line of the refusal
unfoldable pub Prints : Verdict → List ℕ → (output output' errors errors' : Option (List ℕ)) → Type 0
Prints (Ok done) text output output' errors errors' = PrintsText text output output' errors errors'
Prints (Err refusal) text output output' errors errors' = PrintsRefusal (refusal_line refusal) output output' errors errors'
