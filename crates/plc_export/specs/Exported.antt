-- A ladder program exported as a project in PLCopen XML (IEC 61131-10).
use Rattle.std.specs.Prelude.{ℕ, false, List, Option, None, Some}
use Rattle.diagram_program.specs.Program.{Drawing}
use Rattle.st_program.specs.declared.program.StProgram.{StProgram}
use Rattle.export_program.specs.declared.form.AddressForm.{AddressForm}
use Rattle.export_program.specs.Exported.{IsExportedAs, IsExportedBy}
use Rattle.xml_document.specs.Documents.{IsDocument}
use Rattle.xml_document.specs.Items.{Item}
use Rattle.plc_units.specs.Doing.{DoesUnit}
use Rattle.plc_units.specs.Projects.{IsUnit}

-- The document has one unit of this name, which is its only program.
pub record IsOnlyUnit (name : List ℕ) (document : List Item) (interface : Option (List Item)) (body : List Item) : Type 0 where
  pub named : IsUnit (Some name) document interface body
  pub only : IsUnit None document interface body

-- The only unit of the document declares what the program declares, whose statements do what its body does.
pub record IsUnitOf (name : List ℕ) (document : List Item) (text : List ℕ) (program : StProgram) : Type 0 where
  pub interface : Option (List Item)
  pub body : List Item
  pub is : IsOnlyUnit name document interface body
  pub does : DoesUnit false interface body text program

-- The bytes are a project in PLCopen XML. There is an export of the drawing in Structured Text that declares what the only unit of the project
-- declares, and whose statements do what its body does.
pub record IsExportedUnit (form : AddressForm) (name : List ℕ) (d : Drawing) (text : List ℕ) : Type 0 where
  pub document : List Item
  pub statements : List ℕ
  pub program : StProgram
  pub is : IsDocument text document
  pub exported : IsExportedAs form name d statements
  pub by : IsExportedBy form d statements program
  pub unit : IsUnitOf name document statements program
