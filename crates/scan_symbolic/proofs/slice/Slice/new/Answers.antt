use Rattle.std.proofs.Common.{All, List, length, subst, sym}
use Rattle.diagram_program.specs.declared.steps.Step.{Step}
use Rattle.scan_symbolic.specs.Stepping.{IsWithin}
use Rattle.scan_symbolic.proofs.StepLaws.{all_within}
use Rattle.scan_symbolic.proofs.slice.Slice.new.Goals as goal

pub kept_steps-requires : goal.kept_steps-requires
kept_steps-requires c =
    let p = c.args.program.now in
    subst (λ (ss : List Step). All (IsWithin p.rungs (length p.decls.vars)) ss) (sym c.steps.ensures) (all_within p c.checked-2.ensures c.checked.ensures)
