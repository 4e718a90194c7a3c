use Rattle.std.proofs.Common.{◌∙◌, ap, subst}
use Rattle.diagram_declarations.specs.Decls.{Declared}
use Rattle.text_runs.specs.Laws.{AreNamed}
use Rattle.text_runs.proofs.Told.{is_stimulus}
use Rattle.text_runs.proofs.laws.is_stimulus.Goals as goal

pub returns : goal.returns
returns c =
    let p = c.args.program.now in
    let vars = c.vars.ensures.value ∙ ap (λ (d : Declared). d.vars) c.decls.ensures in
    is_stimulus p (rw c.decls.ensures at c.vars.ensures.kept.kept.0) (subst AreNamed vars c.named.ensures)
