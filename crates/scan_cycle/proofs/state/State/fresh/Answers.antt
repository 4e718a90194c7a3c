use Rattle.std.proofs.Common.{ap, map, ◌∙◌}
use Rattle.diagram_declarations.specs.Decls.{Declared}
use Rattle.diagram_declarations.specs.declared.decls.Instance.{Instance}
use Rattle.scan_cycle.proofs.Possible.{fresh_sound}
use Rattle.scan_cycle.proofs.state.State.fresh.Goals as goal

pub invariant_of-result : goal.invariant_of-result
invariant_of-result c = (
  c.in_ok-start.ensures,
  fresh_sound c.args.program.now c.in_ok-storage.storage _ c.in_ok-storage.ensures
      (c.in_ok-kinds.ensures ∙ ap (map (λ (i : Instance). i.kind)) (c.instances.ensures.value ∙ ap (λ (d : Declared). d.instances) c.decls.ensures)),
)
