-- An export by its program.
use Rattle.std.proofs.Common.{ℕ, List}
use Rattle.diagram_program.specs.Program.{Drawing}
use Rattle.st_program.specs.declared.program.StProgram.{StProgram}
use Rattle.export_program.specs.declared.form.AddressForm.{AddressForm}
use Rattle.export_program.specs.Exported.{IsExported, IsExportedBy}

pub exported_by : (form : AddressForm) (d : Drawing) (text : List ℕ) (program : StProgram) → IsExportedBy form d text program → IsExported form d text
exported_by form d text program by = record { program = program; by = by }
