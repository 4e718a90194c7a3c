use Rattle.std.proofs.Common.{◌∙◌, List, ap, subst}
use Rattle.diagram_declarations.specs.Decls.{Declared}
use Rattle.diagram_declarations.specs.declared.decls.Instance.{Instance}
use Rattle.diagram_declarations.specs.declared.decls.Var.{Var}
use Rattle.text_state.specs.Named.{AreNamed}
use Rattle.text_state.proofs.Plain.{records_back}
use Rattle.text_state.proofs.Same.{read_back}
use Rattle.text_state.proofs.laws.reads_back.Goals as goal

pub returns : goal.returns
returns c =
    let p = c.args.program.now in
    let vars = c.vars.ensures.value ∙ ap (λ (d : Declared). d.vars) c.decls.ensures in
    let instances = c.instances.ensures.value ∙ ap (λ (d : Declared). d.instances) c.decls-2.ensures in
    let named_vars = subst (λ (l : List Var). AreNamed (λ v. v.name) l) vars c.named_vars.ensures in
    let named_instances = subst (λ (l : List Instance). AreNamed (λ i. i.name) l) instances c.named_instances.ensures in
    read_back p (λ s ok. records_back p s c.rungs-rungs.ensures.whole named_vars named_instances ok)
