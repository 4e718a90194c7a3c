use Rattle.std.proofs.Common.{◌∙◌, ℕ, List, Some, ap, arith, map, sym}
use Rattle.std.proofs.lemmas.List.{length-map}
use Rattle.diagram_declarations.specs.declared.decls.Var.{Var}
use Rattle.text_trace.specs.Trace.{is_output}
use Rattle.text_trace.proofs.Fields.{field_all, field_prefix, field_more, field_none}
use Rattle.text_trace.proofs.Lists.{chosen_filter, mark_at, some_at}
use Rattle.io_text.proofs.Sending.{sends_err}
use Rattle.text_trace.proofs.trace.add_names.Goals as goal

abbrev name_of : Var → List ℕ
name_of v = v.title

pub loop-number-preserved-then-not-is_output : goal.loop-number-preserved-then-not-is_output
loop-number-preserved-then-not-is_output g c =
    let vars = c.args.vars.now in
    let n = c.loop-number.number in
    let x = c.index-vars-number.result in
    let mark = mark_at is_output vars n x c.loop-number-test.true c.index-vars-number.is ∙ ap Some (sym c.is_output.ensures ∙ c.if-not-is_output.true) in
    field_none name_of (map is_output vars) vars n x _ _ _ _ mark (some_at vars n x c.loop-number-test.true c.index-vars-number.is) c.loop-number.invariant

pub loop-number-preserved : goal.loop-number-preserved
loop-number-preserved g c =
    let vars = c.args.vars.now in
    let n = c.loop-number.number in
    let x = c.index-vars-number.result in
    let mark = mark_at is_output vars n x c.loop-number-test.true c.index-vars-number.is ∙ ap Some (sym c.is_output.ensures ∙ c.if-not-is_output.false) in
    field_more name_of (map is_output vars) vars n x _ _ _ _ _ _ mark (some_at vars n x c.loop-number-test.true c.index-vars-number.is) c.loop-number.invariant
    (rw c.bytes.ensures.spelling at c.in_ok-add_field.ensures)

pub returns-in_err-add_field : goal.returns-in_err-add_field
returns-in_err-add_field g c = sends_err _ _ _ _ _ _ c.from_residual.ensures.0
    (let vars = c.args.vars.now in
    let n = c.loop-number.number in
    let x = c.index-vars-number.result in
    let mark = mark_at is_output vars n x c.loop-number-test.true c.index-vars-number.is ∙ ap Some (sym c.is_output.ensures ∙ c.if-not-is_output.false) in
    field_prefix name_of (map is_output vars) vars _ n x _ _ _ _ _ mark (some_at vars n x c.loop-number-test.true c.index-vars-number.is) (chosen_filter is_output vars) c.loop-number.invariant
    (rw c.bytes.ensures.spelling at c.in_err-add_field.ensures))

pub returns : goal.returns
returns g c =
    let vars = c.args.vars.now in
    field_all name_of (map is_output vars) vars _ c.loop-number.number _ _ _ _ (omega (arith, length-map vars is_output)) (chosen_filter is_output vars) c.loop-number.invariant
