use Rattle.std.proofs.Common.{◌≡◌, ◌∙◌, ap, map}
use Rattle.diagram_declarations.specs.Decls.{is_input}
use Rattle.causes_query.specs.Sources.{image_of, sources_of}
use Rattle.causes_query.proofs.Asking.{inputs_are}
use Rattle.causes_query.proofs.scan_inputs.assignment.Goals as goal

pub returns-in-Ok-image-clause-inputs : goal.returns-in-Ok-image-clause-inputs
returns-in-Ok-image-clause-inputs c =
    let a = c.args in
    let made : c.in-Ok.sources.items ≡ sources_of (map is_input a.program.now.decls.vars) a.listed.now a.state.now.held.values =
    c.in-Ok.ensures.sources
    ∙ ap (λ vs. sources_of (map is_input vs) a.listed.now a.state.now.held.values) (c.vars.ensures.value ∙ ap (λ d. d.vars) c.decls.ensures) in
    c.in-Ok-image.ensures ∙ ap (image_of a.number) c.deref.ensures.value ∙ inputs_are a.program.now a.state.now a.listed.now a.number c.in-Ok.sources.items made
