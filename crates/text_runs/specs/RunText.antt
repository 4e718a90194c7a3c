-- The text of a run: a stimulus that gives all inputs a value in each scan, or in brief only where they change.
use Rattle.std.specs.Prelude.{◌∷◌, ℕ, Bool, List, [], codes, decimal, filter, if◌then◌else◌, map}
use Rattle.std.specs.Bool.{beq}
use Rattle.std.specs.Cmp.Lexicographic.{pointwise}
use Rattle.diagram_declarations.specs.Decls.{is_input}
use Rattle.diagram_program.specs.Program.{Drawing}
use Rattle.io_text.specs.Left.{Fields}
use Rattle.io_text.specs.Text.{bit_text, lines_text}
use Rattle.scan_cycle.specs.Runs.{OneScan}

-- the header: the word for the moment, and the names of the inputs as they are declared, whatever their aliases
abbrev pub run_header : Drawing → Fields
run_header p = codes "moment" ∷ map (λ v. v.name) (filter is_input p.decls.vars)

-- the row of a scan: its moment, and the values that it gives the inputs
abbrev pub scan_row : OneScan → Fields
scan_row scan = decimal scan.moment ∷ map bit_text scan.inputs

-- the text that is written: the header, and a row for each scan
abbrev pub run_text : Drawing → List OneScan → List ℕ
run_text p scans = lines_text (run_header p ∷ map scan_row scans)

-- ---- in brief

-- The scan gives the inputs what the one before it gives them.
abbrev pub gives_same : OneScan → OneScan → Bool
gives_same before scan = pointwise beq before.inputs scan.inputs

-- Those that have a row after a scan: each that gives other inputs than the one before it, and the last.
abbrev pub brief_after : OneScan → List OneScan → List OneScan
brief_after before [] = []
brief_after before (last ∷ []) = last ∷ []
brief_after before (scan ∷ next ∷ more) =
    let others = brief_after scan (next ∷ more) in if gives_same before scan then others else scan ∷ others

-- The scans that have a row: the first, each that gives other inputs than the one before it, and the last.
abbrev pub brief_scans : List OneScan → List OneScan
brief_scans [] = []
brief_scans (first ∷ more) = first ∷ brief_after first more

-- the text that is written in brief
abbrev pub brief_text : Drawing → List OneScan → List ℕ
brief_text p scans = run_text p (brief_scans scans)
