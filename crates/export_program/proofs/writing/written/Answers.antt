use Rattle.std.proofs.Common.{sym}
use Rattle.export_program.proofs.By.{exported_by}
use Rattle.export_program.proofs.writing.written.Goals as goal

pub returns-then-is_titled-clause-exported : goal.returns-then-is_titled-clause-exported
returns-then-is_titled-clause-exported c =
    rw (sym c.addresses.ensures) (rw (sym c.deref-2.ensures.value) (exported_by _ _ _ _ (c.in_ok-is_program.ensures c.if-not-branch.false)))
