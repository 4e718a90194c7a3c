use Rattle.std.proofs.Common.{◌<◌, length, refl, sym, ap, subst, ◌∙◌, ◌≡◌, slice_set, get_or}
use Rattle.std.proofs.lemmas.Option.{get_or_from_slice_get}
use Rattle.diagram_declarations.specs.Decls.{Declared}
use Rattle.diagram_declarations.specs.declared.decls.Instance.{Instance}
use Rattle.diagram_declarations.proofs.Keeping.{instance_in_range}
use Rattle.diagram_declarations.proofs.decls.Decls.set_instance_title.Goals as goal

pub invariant_of-self : goal.invariant_of-self
invariant_of-self c =
    let d : Declared = record { vars = c.self.inside.vars.items; instances = c.self.inside.instances.items } in
    let v : Instance = c.index_mut.result.now in
    let w : Instance = record v { title = c.args.title } in
    let room : c.args.number < length d.instances = subst (λ (x : Declared). c.args.number < length x.instances) (sym c.self.view_is) c.requires in
    (instance_in_range d c.args.number v w room c.index_mut.ensures.value refl c.self.invariant.0, c.self.invariant.1)

pub returns : goal.returns
returns c = λ v found.
    let d : Declared = record { vars = c.self.inside.vars.items; instances = c.self.inside.instances.items } in
    let same : d ≡ c.args.self.now = c.self.view_is in
    let here : c.index_mut.result.now ≡ v
    = c.index_mut.ensures.value ∙ ap (λ x. get_or x.instances c.args.number c.index_mut.result.now) same
    ∙ get_or_from_slice_get c.args.self.now.instances c.args.number v c.index_mut.result.now found in
    ap (λ (x : Instance). record d { instances = slice_set d.instances c.args.number (record x { title = c.args.title }) }) here
    ∙ ap (λ (x : Declared). record x { instances = slice_set x.instances c.args.number (record v { title = c.args.title }) }) same
