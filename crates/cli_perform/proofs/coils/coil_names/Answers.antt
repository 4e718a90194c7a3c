use Rattle.std.proofs.Common.{◌≡◌, ◌∙◌, ◌++◌, ◌∷◌, [], ℕ, List, ap, ap₂, false, string_bytes, sym, true}
use Rattle.std.proofs.lemmas.List.{map-append}
use Rattle.diagram_declarations.specs.Decls.{Declared}
use Rattle.diagram_declarations.specs.declared.decls.Var.{Var}
use Rattle.diagram_program.specs.Program.{has_coil}
use Rattle.cli_perform.proofs.Names.{passed_over, taken_up}
use Rattle.cli_perform.proofs.coils.coil_names.Goals as goal

pub loop-var-preserved-then-not-has_coil : goal.loop-var-preserved-then-not-has_coil
loop-var-preserved-then-not-has_coil c =
    let off : has_coil c.loop-var.var c.args.program.now ≡ false = sym c.has_coil.ensures ∙ c.if-not-has_coil.true in
    c.loop-var.invariant ∙ sym (passed_over c.args.program.now c.loop-var.var off)

pub loop-var-preserved : goal.loop-var-preserved
loop-var-preserved c =
    let on : has_coil c.loop-var.var c.args.program.now ≡ true = sym c.has_coil.ensures ∙ c.if-not-has_coil.false in
    let same : c.vars-vars.result.now ≡ c.args.program.now.decls.vars = c.vars-vars.ensures.value ∙ ap (λ (d : Declared). d.vars) c.decls.ensures in
    let more = taken_up c.args.program.now c.loop-var.var c.vars-vars.result.now c.index-vars-var.result same c.loop-var-test.true c.index-vars-var.is on in
    rw c.in_ok-push.ensures.items
    (map-append string_bytes c.loop-var.names.items (c.in_ok-name.name ∷ [])
    ∙ ap₂ (λ (xs : List (List ℕ)) (x : List ℕ). xs ++ x ∷ []) c.loop-var.invariant (c.in_ok-name.ensures ∙ sym (ap (λ (v : Var). v.name) c.index-vars-var.is))
    ∙ sym more)
