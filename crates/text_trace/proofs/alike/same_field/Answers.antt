use Rattle.std.proofs.Common.{◌∙◌, ap, arith, decimal, of_z, sym}
use Rattle.std.specs.Fmt.{signed_decimal}
use Rattle.std.specs.Int.{w16}
use Rattle.std.proofs.lemmas.Fmt.{decimal_injective, signed_decimal_injective}
use Rattle.text_trace.proofs.SameAt.{no_number}
use Rattle.text_trace.proofs.alike.same_field.Goals as goal

pub returns-in-Elapsed-clause-other : goal.returns-in-Elapsed-clause-other
returns-in-Elapsed-clause-other c = λ no same.
    let texts = ap decimal c.elapsed.ensures.value ∙ (rw c.in-Elapsed.is at same) ∙ sym (ap decimal c.elapsed-in-Elapsed.ensures.value) in
    no_number c.elapsed.result c.elapsed-in-Elapsed.result no
    (decimal_injective c.elapsed.result c.elapsed-in-Elapsed.result c.elapsed.ensures.small c.elapsed-in-Elapsed.ensures.small texts)

pub returns-in-Count-clause-other : goal.returns-in-Count-clause-other
returns-in-Count-clause-other c = λ no same.
    let one = c.count_of.ensures.value in
    let other = c.count_of-in-Count.ensures.value in
    let texts = ap signed_decimal (rw c.stored-in-Count.ensures at one) ∙ (rw c.in-Count.is at same) ∙ sym (ap signed_decimal (rw c.stored-in-Count-2.ensures at other)) in
    let small = c.count_of.ensures.small in
    let little = c.count_of-in-Count.ensures.small in
    no_number (of_z w16 c.count_of.result) (of_z w16 c.count_of-in-Count.result) no
    (ap (of_z w16) (signed_decimal_injective c.count_of.result c.count_of-in-Count.result (omega (arith, small)) (omega (arith, little)) texts))
