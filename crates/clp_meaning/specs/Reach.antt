-- Where power can come to, as it is found column by column.
use Rattle.std.specs.Prelude.{◌↔◌, ◌<◌, ℕ, List, [], Bool, false, IsTrue, slice_index_or}
use Rattle.diagram_program.specs.declared.geometry.TheConstants.{COLUMNS, ROWS}
use Rattle.clp_project.specs.declared.element.Element.{Element}
use Rattle.clp_project.specs.declared.reading.ReadingOptions.{ReadingOptions}
use Rattle.clp_meaning.specs.Sheets.{Reached}

-- for each row, whether power can come to it in the column
abbrev pub AreReached : ReadingOptions → List Element → ℕ → List Bool → Type 0
AreReached reading es c here = (row : ℕ) → row < ROWS → IsTrue (slice_index_or here row false) ↔ Reached reading es c row

-- for each column and its rows, whether power can come there
abbrev pub IsPower : ReadingOptions → List Element → List (List Bool) → Type 0
IsPower reading es power = (c : ℕ) → c < COLUMNS → AreReached reading es c (slice_index_or power c [])
