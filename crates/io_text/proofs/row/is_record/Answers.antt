use Rattle.std.proofs.Common.{◌≡◌, ◌<◌, ◌∙◌, ℕ, List, [], Bool, ap, arith, refl, sym, map, length, get_or, true, false, not}
use Rattle.std.specs.Cmp.Lexicographic.{other_text, same_text}
use Rattle.std.proofs.lemmas.List.{ext_get_or, get_or-map, length-map}
use Rattle.std.specs.Borrow.{Bor}
use Rattle.csv.specs.Records.{fields_of}
use Rattle.csv.proofs.RecordFacts.{field-get, field-there}
use borrow.Author.Count.{below_more}
use Rattle.io_text.proofs.row.is_record.Goals as goal

not_true : (b : Bool) → true ≡ not b → false ≡ b
not_true true e = cc e
not_true false e = refl

not_false : (b : Bool) → false ≡ not b → true ≡ b
not_false true e = refl
not_false false e = cc e

abbrev now : Bor (List ℕ) → List ℕ
now f = f.now

-- the wanted field at a place
wanted : (fields : List (Bor (List ℕ))) (i : ℕ) (d : Bor (List ℕ)) → i < length fields → get_or (map now fields) i [] ≡ (get_or fields i d).now
wanted fields i d h = get_or-map now fields i d [] h

pub returns-in_default-clause-other : goal.returns-in_default-clause-other
returns-in_default-clause-other c = λ _ e. field-there (fields_of c.args.row.now) c.loop-number.number (omega arith) (sym c.in_default.ensures.value)

pub returns-then-ne-clause-other : goal.returns-then-ne-clause-other
returns-then-ne-clause-other c = λ _ e.
    let i = c.loop-number.number in
    let here = field-get (fields_of c.args.row.now) i c.in-Some.field.now (sym c.in-Some.ensures.value) in
    let there = wanted c.args.fields.now i (record { ref_ptr = (0, 0); now = [] }) c.loop-number-test.true in
    other_text _ _ (not_true _ c.if-ne.ensures) (sym here ∙ ap (λ fs. get_or fs i []) e ∙ there)

pub loop-number-preserved : goal.loop-number-preserved
loop-number-preserved c =
    let i = c.loop-number.number in
    let here = field-get (fields_of c.args.row.now) i c.in-Some.field.now (sym c.in-Some.ensures.value) in
    let there = wanted c.args.fields.now i (record { ref_ptr = (0, 0); now = [] }) c.loop-number-test.true in (
      c.loop-number.invariant.0,
      below_more (λ k. get_or (fields_of c.args.row.now) k [] ≡ get_or (map now c.args.fields.now) k []) i c.loop-number.invariant.1
          (here ∙ same_text _ _ (not_false _ c.if-ne.ensures) ∙ sym there),
    )

pub returns-clause-same : goal.returns-clause-same
returns-clause-same c = λ _.
    let same : length (fields_of c.args.row.now) ≡ length (map now c.args.fields.now) = c.loop-number.invariant.0 ∙ sym (length-map c.args.fields.now now) in
    ext_get_or [] (fields_of c.args.row.now) (map now c.args.fields.now) same (λ k h. c.loop-number.invariant.1 k (omega (arith, c.loop-number.invariant.0)))
