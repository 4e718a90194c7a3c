use Rattle.std.proofs.Common.{refl, sym, ap, ◌∙◌, ◌≡◌, slice_set, get_or}
use Rattle.std.proofs.lemmas.List.Folds.{prefix_len-set}
use Rattle.std.proofs.lemmas.Option.{get_or_from_slice_get}
use Rattle.diagram_declarations.specs.Decls.{Declared, is_input}
use Rattle.diagram_declarations.specs.declared.decls.Var.{Var}
use Rattle.diagram_declarations.proofs.Keeping.{var_in_range}
use Rattle.diagram_declarations.proofs.decls.Decls.set_var_title.Goals as goal

pub invariant_of-self : goal.invariant_of-self
invariant_of-self c =
    let d : Declared = record { vars = c.self.inside.vars.items; instances = c.self.inside.instances.items } in
    let v : Var = c.index_mut.result.now in
    let w : Var = record v { title = c.args.title } in (
      var_in_range d c.args.number v w c.index_mut.ensures.value refl c.self.invariant.0,
      c.self.invariant.1 ∙ sym (prefix_len-set is_input d.vars c.args.number w v (ap is_input c.index_mut.ensures.value)),
    )

pub returns : goal.returns
returns c = λ v found.
    let d : Declared = record { vars = c.self.inside.vars.items; instances = c.self.inside.instances.items } in
    let same : d ≡ c.args.self.now = c.self.view_is in
    let here : c.index_mut.result.now ≡ v
    = c.index_mut.ensures.value ∙ ap (λ x. get_or x.vars c.args.number c.index_mut.result.now) same
    ∙ get_or_from_slice_get c.args.self.now.vars c.args.number v c.index_mut.result.now found in
    ap (λ (x : Var). record d { vars = slice_set d.vars c.args.number (record x { title = c.args.title }) }) here
    ∙ ap (λ (x : Declared). record x { vars = slice_set x.vars c.args.number (record v { title = c.args.title }) }) same
