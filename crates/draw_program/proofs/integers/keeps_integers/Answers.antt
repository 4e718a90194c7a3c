use Rattle.std.proofs.Common.{◌≡◌, ◌∙◌, Bool, List, Option, refl, subst, ap}
use Rattle.diagram_declarations.specs.Decls.{Declared}
use Rattle.st_integers.specs.declared.value.IntegerValue.{IntegerValue}
use Rattle.st_integers.specs.Values.{HaveOne, KeepOne}
use Rattle.st_program.specs.Symbols.{integer_values}
use Rattle.draw_program.specs.Integers.{AreNoInputs}
use Rattle.draw_program.proofs.Ones.{kept_of}
use Rattle.draw_program.proofs.integers.keeps_integers.Goals as goal

pub returns : goal.returns
returns c = λ t.
    let vars = c.vars-vars.result.now in
    let list = c.args.program.now.statements in
    let are : c.vars-vars.result.now ≡ c.args.drawing.now.decls.vars = c.vars-vars.ensures.value ∙ ap (λ (d : Declared). d.vars) c.decls.ensures in
    let free : AreNoInputs c.in_ok-values.values.items vars =
    subst (λ (l : List (Option IntegerValue)). AreNoInputs l vars) c.deref-2.ensures.value (c.if-not-are_no_inputs.ensures refl) in
    let begins : HaveOne c.in_ok-values.values.items c.in_ok-starts.starts.items =
    subst (λ (l : List (Option IntegerValue)). HaveOne l c.in_ok-starts.starts.items) c.deref-else-not-are_no_inputs.ensures.value
    (subst (λ (on : List Bool). HaveOne c.deref-else-not-are_no_inputs.result.now on) c.deref-else-not-are_no_inputs-2.ensures.value (c.if-not-have_one.ensures.0 refl)) in
    kept_of c.args.drawing.now c.args.program.now.variables.items list c.in_ok-values.values.items vars c.in_ok-starts.starts.items
    (c.in_ok-values.ensures ∙ ap integer_values c.deref.ensures.value) are c.in_ok-starts.ensures c.requires free begins
    (subst (λ (l : List (Option IntegerValue)). KeepOne l list) c.deref-3.ensures.value (c.keep_one.ensures.keeps t))
