use Rattle.std.proofs.Common.{◌≡◌, ◌∙◌, ◌++◌, ◌∷◌, ◌<◌, ◌≤◌, [], false, arith, ap, sym, length, map, get_or}
use Rattle.std.proofs.lemmas.List.{get_or-map, length-map}
use Rattle.diagram_declarations.specs.Decls.{Declared, is_input}
use Rattle.reach_runs.specs.Asking.{question_of}
use Rattle.reach_search.specs.Searches.{input_value}
use Rattle.reach_search.proofs.AskingLaws.{asked_end, asked_from, asked_more, asked_past, all_asked}
use Rattle.reach_search.proofs.search.first_inputs.Goals as goal
use Rattle.reach_search.proofs.search.first_inputs.Goals.{then-is_input+in_ok-push, else-is_input}

pub loop-var-preserved : goal.loop-var-preserved
loop-var-preserved c =
    let vars = c.vars-vars.result.now in
    let flags = map is_input vars in
    let f = input_value (question_of c.args.query) in
    let n = c.loop-var.var in
    let lt : n < length flags = omega (arith, length-map vars is_input, c.loop-var-test.true) in
    let flag : get_or flags n false ≡ c.is_input.result =
    get_or-map is_input vars n c.index-vars-var.result false c.loop-var-test.true ∙ sym (ap is_input c.index-vars-var.is) ∙ sym c.is_input.ensures in
    elim c.if-is_input.branch [
      | then-is_input+in_ok-push w ↦
          let items : c.if-is_input.inputs.items ≡ c.loop-var.inputs.items ++ w.first_value.result ∷ [] = ap (λ v. v.items) w.inputs-is ∙ w.in_ok-push.ensures.items in
          rw (items, w.first_value.ensures) (asked_more f flags n c.loop-var.inputs.items (asked_from f 0 flags) lt (flag ∙ w.if-is_input.true) c.loop-var.invariant)
      | else-is_input w ↦
          let items : c.if-is_input.inputs.items ≡ c.loop-var.inputs.items = ap (λ v. v.items) w.inputs-is in
          rw items (asked_past f flags n c.loop-var.inputs.items (asked_from f 0 flags) lt (flag ∙ w.if-is_input.false) c.loop-var.invariant)
    ]

pub returns : goal.returns
returns c =
    let vars = c.vars-vars.result.now in
    let flags = map is_input vars in
    let f = input_value (question_of c.args.query) in
    let le : length flags ≤ c.loop-var.var = omega (arith, length-map vars is_input, c.loop-var-test.false) in
    all_asked (question_of c.args.query) vars c.loop-var.inputs.items (c.vars-vars.ensures.value ∙ ap (λ (d : Declared). d.vars) c.decls.ensures) c.requires.values
    (asked_end f flags c.loop-var.var c.loop-var.inputs.items (asked_from f 0 flags) le c.loop-var.invariant)
