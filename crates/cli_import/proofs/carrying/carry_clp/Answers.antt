use Rattle.std.proofs.Common.{inl, refl}
use Rattle.cli_import.specs.Lines.{project_text}
use Rattle.cli_import.proofs.Saying.{either}
use Rattle.cli_import.proofs.carrying.carry_clp.Goals as goal

pub returns-in-Err-clause-failed : goal.returns-in-Err-clause-failed
returns-in-Err-clause-failed g c = λ status. inl (
  refl,
  record {
    said = project_text c.args.why c.in-Err.fault;
    is = inl (c.in-Err.fault, c.in-Err.ensures.none, refl);
    written = either _ _ _ _ c.write_project_fault.ensures;
  },
)
