use Rattle.std.proofs.Common.{◌≤◌, arith, inl, inr, refl}
use Rattle.clp_import.specs.declared.importing.ImportFault.TheVariants.{Memory}
use Rattle.cli_import.specs.Lines.{import_text, refusals_text}
use Rattle.cli_import.proofs.Saying.{either, some_in}
use Rattle.cli_import.proofs.carrying.carry_project.Goals as goal

pub returns-else-is_empty-clause-failed : goal.returns-else-is_empty-clause-failed
returns-else-is_empty-clause-failed g c = λ status. let filled : 1 ≤ c.in-Ok.refused.len = some_in _ _ c.is_empty.ensures c.if-is_empty.false in inl (
  refl,
  record {
    said = refusals_text c.args.options.why c.deref.result.now;
    is = inr (inl (c.args.project.now, c.deref.result.now, c.requires, omega (arith, filled, c.deref.ensures.len), rw c.deref.ensures.value c.in-Ok.ensures, refl));
    written = either _ _ _ _ c.write_refusals.ensures;
  },
)

pub returns-in-Err-clause-failed : goal.returns-in-Err-clause-failed
returns-in-Err-clause-failed g c = λ status. inl (
  refl,
  record {
    said = import_text c.args.options.why Memory;
    is = inr (inr (c.args.project.now, Memory, c.requires, tt, refl));
    written = either _ _ _ _ c.write_import_fault.ensures;
  },
)
