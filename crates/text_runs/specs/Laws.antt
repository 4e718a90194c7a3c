-- The law of the text of a run: it is a stimulus, and its records tell the scans of the run.
use Rattle.std.specs.Prelude.{◌≡◌, ◌∷◌, ◌<◌, ◌^◌, ℕ, Bool, true, List, Some, length, map, slice_get}
use Rattle.std.specs.List.{All, count_by, range_with_len}
use Rattle.diagram_declarations.specs.declared.decls.Var.{Var}
use Rattle.diagram_declarations.specs.Decls.{is_input}
use Rattle.diagram_declarations.specs.Name.{is_name}
use Rattle.diagram_program.specs.Program.{Drawing}
use Rattle.io_text.specs.Text.{ArePlainRecords, records_of}
use Rattle.reach_runs.specs.Asking.{AreEvery}
use Rattle.scan_cycle.specs.Runs.{OneScan}
use Rattle.text_trace.specs.Filled.{all_fields, filled}
use Rattle.text_trace.specs.Stimulus.{IsHeader, IsRow, given_by}
use Rattle.text_runs.specs.RunText.{brief_scans, brief_text, run_header, run_text, scan_row}

-- how many inputs the program has
abbrev pub input_count : Drawing → ℕ
input_count p = count_by is_input p.decls.vars

-- the places of all inputs, in order of declaration
abbrev pub all_inputs : Drawing → List ℕ
all_inputs p = range_with_len 0 (input_count p)

-- The scan gives each input a value, at a moment of 64 bits.
abbrev pub IsScanOf : Drawing → OneScan → Type 0
IsScanOf p scan = (length scan.inputs ≡ input_count p) × (scan.moment < 2 ^ 64)

-- The row has the moment of the scan. Its bits give all inputs what the scan gives them, whatever values these had.
pub record TellsScan (p : Drawing) (scan : OneScan) : Type 0 where
  pub row : IsRow (all_inputs p) (scan_row scan) scan.moment scan.inputs
  pub given : (image : List Bool) → length image ≡ input_count p → given_by (all_inputs p) scan.inputs image ≡ scan.inputs

-- The records of the text are its header, which names all inputs in order of declaration, and a row for each scan.
pub record TellsRun (p : Drawing) (scans : List OneScan) : Type 0 where
  pub plain : ArePlainRecords (run_header p ∷ map scan_row scans)
  pub records : records_of (run_text p scans) ≡ run_header p ∷ map scan_row scans
  pub header : IsHeader p.decls (run_header p) (all_inputs p)
  pub rows : All (TellsScan p) scans

-- The text of scans of the program is a stimulus that tells them.
abbrev pub IsStimulusOfRun : Drawing → Type 0
IsStimulusOfRun p = (scans : List OneScan) → All (IsScanOf p) scans → TellsRun p scans

-- The brief text of scans in a rhythm is a stimulus that tells those that have a row. With the scans between its records it is the text of
-- all scans.
pub record TellsBriefly (p : Drawing) (every : ℕ) (scans : List OneScan) : Type 0 where
  pub told : TellsRun p (brief_scans scans)
  pub filled : all_fields (filled every (records_of (brief_text p scans))) ≡ records_of (run_text p scans)

-- So it is for all scans of the program that are one every so many ms, from a moment on.
abbrev pub IsBriefRun : Drawing → Type 0
IsBriefRun p =
    (every from : ℕ) (scans : List OneScan) → 0 < every → AreEvery every from scans → All (IsScanOf p) scans → TellsBriefly p every scans

-- Private to the law: the names of variables are well formed.
abbrev pub AreNamed : List Var → Type 0
AreNamed vars = (number : ℕ) (v : Var) → slice_get vars number ≡ Some v → is_name v.name ≡ true
