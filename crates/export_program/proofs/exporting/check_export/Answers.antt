use Rattle.export_program.proofs.By.{exported_by}
use Rattle.export_program.proofs.exporting.check_export.Goals as goal

pub returns-then-branch-clause-exported : goal.returns-then-branch-clause-exported
returns-then-branch-clause-exported c = exported_by _ _ _ _ (c.in_ok-is_program.ensures c.if-branch.true)
