-- `text::write::put_number` meets its contract: the library's digits are those of the definition. Assumes nothing.
use Rattle.std.proofs.Common.{arith, rules, ◌∙◌, ◌++◌, sym, ap, length}
use Rattle.line.proofs.Decimals.{decimal_one}
use Rattle.text.proofs.Lines.{same_decimal}
use Rattle.text.proofs.write.put_number.Goals as goal

pub returns-then-number-lt10 : goal.returns-then-number-lt10
returns-then-number-lt10 g c =
    c.push.ensures.items ∙ ap (λ text. c.args.out.now.items ++ text) (sym (decimal_one c.args.number c.if-number-lt10.true))

pub push-requires : goal.push-requires
push-requires g c = (search rules, omega (arith, ap length (decimal_one c.args.number c.if-number-lt10.true)))

pub returns : goal.returns
returns g c =
    let digits = c.as_bytes.ensures.value ∙ c.format.ensures.text ∙ same_decimal c.args.number (omega arith) in
    c.put_text.ensures ∙ ap (λ text. c.args.out.now.items ++ text) digits

pub put_text-requires : goal.put_text-requires
put_text-requires g c =
    let digits = c.as_bytes.ensures.value ∙ c.format.ensures.text ∙ same_decimal c.args.number (omega arith) in
    (search rules, omega (arith, ap length digits))
