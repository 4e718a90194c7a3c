use Rattle.std.proofs.Common.{◌∙◌, ap, sym, subst, arith}
use Rattle.std.specs.Fmt.{signed_decimal}
use Rattle.std.specs.Int.{w16}
use Rattle.std.specs.Prelude.{FitsSigned}
use Rattle.std.proofs.lemmas.Int.{to_z-of_z}
use Rattle.std.specs.Str.{IsUtf8}
use Rattle.std.specs.Cmp.Lexicographic.{other_text}
use Rattle.std.proofs.lemmas.Fmt.{IsAscii-signed, parse-signed_decimal}
use Rattle.std.proofs.lemmas.Str.{IsUtf8-from_ascii}
use Rattle.io_text.proofs.Numbers.{same_ok}
use Rattle.io_text.proofs.field.read_signed.Goals as goal

pub returns-in_default-clause-none : goal.returns-in_default-clause-none
returns-in_default-clause-none c = λ _ z h e. c.in_default.ensures.cases.0 (subst IsUtf8 (sym e) (IsUtf8-from_ascii (signed_decimal z) (IsAscii-signed z (omega (arith, h.sfits)))))

pub returns-in_default-parse-clause-none : goal.returns-in_default-parse-clause-none
returns-in_default-parse-clause-none c = λ _ z h e.
    let ok = parse-signed_decimal w16 z _ c.parse.result h (omega (arith, h.sfits)) (c.in-Ok.ensures.cases.0 ∙ e) c.parse.ensures.value.0 in
    let bad = sym c.in_default-parse.is ∙ ok in cc

pub returns-else-eq-clause-none : goal.returns-else-eq-clause-none
returns-else-eq-clause-none c = λ _ z h e.
    let ok = parse-signed_decimal w16 z _ c.parse.result h (omega (arith, h.sfits)) (c.in-Ok.ensures.cases.0 ∙ e) c.parse.ensures.value.0 in
    let same = same_ok (sym c.in-Ok-parse.is ∙ ok) in
    let range : FitsSigned w16 c.in-Ok-parse.value = subst (FitsSigned w16) (sym same) h in
    other_text _ _ c.if-eq.ensures (c.as_bytes.ensures.value ∙ c.format.ensures.text ∙ ap signed_decimal (to_z-of_z w16 _ range ∙ same) ∙ sym e)
