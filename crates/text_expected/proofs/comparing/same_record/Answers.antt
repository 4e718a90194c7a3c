use Rattle.std.proofs.Common.{◌≡◌, ◌∙◌, [], Bool, arith, false, get_or, not, refl, sym, true}
use Rattle.std.specs.Cmp.Lexicographic.{same_text}
use Rattle.std.proofs.lemmas.List.{ext_get_or}
use Rattle.csv.specs.Records.{fields_of}
use Rattle.csv.proofs.RecordFacts.{field-get, field-there}
use borrow.Author.Count.{below_more}
use Rattle.text_expected.proofs.comparing.same_record.Goals as goal

not_false : (b : Bool) → false ≡ not b → true ≡ b
not_false true e = refl
not_false false e = cc e

pub returns-in_default-clause-other : goal.returns-in_default-clause-other
returns-in_default-clause-other c = λ _ e.
    field-there (fields_of c.args.row.now) c.loop-number.number (omega (arith, c.loop-number-test.true, c.len-number-end.ensures)) (sym c.in_default.ensures.value)

pub loop-number-preserved : goal.loop-number-preserved
loop-number-preserved c =
    let i = c.loop-number.number in
    let here = field-get (fields_of c.args.row.now) i c.in-Some.field.now (sym c.in-Some.ensures.value) in
    let there = field-get (fields_of c.args.other.now) i c.in-Some-get.wanted.now (sym c.in-Some-get.ensures.value) in (
      c.loop-number.invariant.0,
      below_more (λ k. get_or (fields_of c.args.row.now) k [] ≡ get_or (fields_of c.args.other.now) k []) i c.loop-number.invariant.1
          (here ∙ same_text _ _ (not_false _ c.if-ne.ensures) ∙ sym there),
    )

pub returns-clause-same : goal.returns-clause-same
returns-clause-same c = λ _.
    ext_get_or [] (fields_of c.args.row.now) (fields_of c.args.other.now) c.loop-number.invariant.0
    (λ k h. c.loop-number.invariant.1 k (omega (arith, h, c.loop-number-test.false, c.len-number-end.ensures)))
