-- A program in PLCopen XML (IEC 61131-10), as the text of a ladder program.
use Rattle.std.specs.Prelude.{ℕ, Bool, List, Option}
use Rattle.st_program.specs.declared.program.StProgram.{StProgram}
use Rattle.st_program.specs.Programs.{IsStProgram}
use Rattle.draw_program.specs.Drawn.{IsDrawn}
use Rattle.xml_document.specs.Items.{Item}
use Rattle.plc_units.specs.Doing.{DoesUnit}
use Rattle.plc_units.specs.Projects.{IsUnit}

-- There is a program in Structured Text that declares what the interface declares and does what the body does, and the text is a drawing of that
-- program. Outputs of blocks that aren't known may be open: inputs of the program stand for them.
pub record IsDrawnUnit (is_open : Bool) (interface : Option (List Item)) (body : List Item) (text : List ℕ) : Type 0 where
  pub statements : List ℕ
  pub program : StProgram
  pub read : IsStProgram statements program
  pub does : DoesUnit is_open interface body statements program
  pub drawn : IsDrawn statements program text

-- The text is a drawing of the unit of the document that is asked for.
pub record IsImported (document : List Item) (name : Option (List ℕ)) (is_open : Bool) (text : List ℕ) : Type 0 where
  pub interface : Option (List Item)
  pub body : List Item
  pub is_unit : IsUnit name document interface body
  pub drawn : IsDrawnUnit is_open interface body text
