use Rattle.std.proofs.Common.{◌∙◌, ap, decimal, sym, subst}
use Rattle.std.specs.Str.{IsUtf8}
use Rattle.std.specs.Cmp.Lexicographic.{other_text}
use Rattle.std.proofs.lemmas.Fmt.{IsAscii-decimal, parse-decimal}
use Rattle.std.proofs.lemmas.Str.{IsUtf8-from_ascii}
use Rattle.io_text.proofs.Numbers.{same_ok}
use Rattle.io_text.proofs.field.read_number.Goals as goal

pub returns-in_default-clause-none : goal.returns-in_default-clause-none
returns-in_default-clause-none c = λ _ n h e. c.in_default.ensures.cases.0 (subst IsUtf8 (sym e) (IsUtf8-from_ascii (decimal n) (IsAscii-decimal n h)))

pub returns-in_default-parse-clause-none : goal.returns-in_default-parse-clause-none
returns-in_default-parse-clause-none c = λ _ n h e.
    let ok = parse-decimal 64 n _ c.parse.result h h (c.in-Ok.ensures.cases.0 ∙ e) c.parse.ensures.value.0 in
    let bad = sym c.in_default-parse.is ∙ ok in cc

pub returns-else-eq-clause-none : goal.returns-else-eq-clause-none
returns-else-eq-clause-none c = λ _ n h e.
    let ok = parse-decimal 64 n _ c.parse.result h h (c.in-Ok.ensures.cases.0 ∙ e) c.parse.ensures.value.0 in
    let same = same_ok (sym c.in-Ok-parse.is ∙ ok) in
    other_text _ _ c.if-eq.ensures (c.as_bytes.ensures.value ∙ c.format.ensures.text ∙ ap decimal same ∙ sym e)
