-- What is read of the parts of a request.
use Rattle.std.specs.Prelude.{false, List, Option, None, Some, map, codes, string_bytes, option_map, []}
use Rattle.clap.specs.Words.{Row}
use Rattle.cli_arguments.specs.Asking.{AssumesNothing, HasFlag, HasInputs, HasLasting, HasNumber, HasOption, HasText, NamesDiff, NamesDiffRuns, NamesVerdicts}
use Rattle.cli_arguments.specs.declared.comparing.Programs.{Programs}
use Rattle.cli_arguments.specs.declared.lasting.Lasting.{Lasting}
use Rattle.cli_arguments.specs.declared.parts.NamedScan.{NamedScan}
use Rattle.cli_arguments.specs.declared.simulating.Played.{Played}
use Rattle.cli_arguments.specs.declared.parts.Sources.{Sources}
use Rattle.cli_arguments.specs.declared.request.DiffRequest.{DiffRequest}
use Rattle.cli_arguments.specs.declared.request.DiffRunsRequest.{DiffRunsRequest}
use Rattle.cli_arguments.specs.declared.request.VerdictRequest.{VerdictRequest}

-- the state and the program text
abbrev pub HasSources : List Row → Sources → Type 0
HasSources rows s = HasOption (codes "state") rows (option_map string_bytes s.state) × HasText (codes "file") rows (string_bytes s.file)

-- the scan, and the inputs that are listed
abbrev pub NamesScan : List Row → NamedScan → Type 0
NamesScan rows s = HasOption (codes "state") rows (option_map string_bytes s.state)
    × HasNumber (codes "at") rows s.moment
    × HasText (codes "file") rows (string_bytes s.file)
    × HasInputs rows s.all_inputs (map string_bytes s.inputs.items)

-- a stimulus, with the state in which its first scan begins
abbrev pub Plays : List Row → Played → Type 0
Plays rows w = HasOption (codes "state") rows (option_map string_bytes w.state)
    × HasText (codes "file") rows (string_bytes w.file)
    × HasText (codes "stimulus") rows (string_bytes w.stimulus)

-- Each record of a stimulus has its own moment and inputs, so none are given besides, and nothing is assumed of them.
abbrev pub IsOfRecords : List Row → Type 0
IsOfRecords rows = HasNumber (codes "at") rows None × HasNumber (codes "number") rows None × HasInputs rows false [] × AssumesNothing rows

-- No number is given to end at, and no line is asked for that tells up to which one a list is written.
abbrev pub NamesNoEnd : List Row → Type 0
NamesNoEnd rows = HasNumber (codes "upto") rows None × (HasFlag (codes "progress") rows → ⊥)

-- No number is given to begin after, and none to end at, and no line tells how far a list is.
abbrev pub IsUncut : List Row → Type 0
IsUncut rows = HasNumber (codes "after") rows None × NamesNoEnd rows

-- One scan is asked for, no number to begin after or to end at, and no line that tells how far a list is.
abbrev pub IsOfOneScan : List Row → Type 0
IsOfOneScan rows = HasNumber (codes "scans") rows None
    × HasNumber (codes "for") rows None
    × HasNumber (codes "every") rows None
    × IsUncut rows

-- One scan of any state, at any moment, is asked for: no moment is given, and no inputs are found for one state.
abbrev pub IsOfAnyState : List Row → Type 0
IsOfAnyState rows = HasNumber (codes "at") rows None
    × IsOfOneScan rows
    × (HasFlag (codes "relevant") rows → ⊥)

-- Nothing says which states count, whether every one is meant, how long a search is, or that runs are to come to a row.
abbrev pub NamesNoStates : List Row → Type 0
NamesNoStates rows = (HasFlag (codes "off") rows → ⊥) × (HasFlag (codes "must") rows → ⊥)
    × (HasFlag (codes "reachable") rows → ⊥)
    × HasNumber (codes "looks") rows None
    × (HasFlag (codes "runs") rows → ⊥)
    × HasNumber (codes "states") rows None

-- No state is named in which runs begin, and no number of states that a search for one keeps.
abbrev pub NamesNoRuns : List Row → Type 0
NamesNoRuns rows = HasOption (codes "state") rows None × HasNumber (codes "states") rows None

-- how long the scans last, where there are several
abbrev pub MayLast : Option Lasting → List Row → Type 0
MayLast None rows = HasNumber (codes "scans") rows None × HasNumber (codes "for") rows None
MayLast (Some lasting) rows = HasLasting lasting rows

-- the programs that are compared, and their states
abbrev pub HasPrograms : List Row → Programs → Type 0
HasPrograms rows p = HasText (codes "old") rows (string_bytes p.old)
    × HasText (codes "new") rows (string_bytes p.new)
    × HasOption (codes "state") rows (option_map string_bytes p.state)
    × HasOption (codes "new-state") rows (option_map string_bytes p.new_state)

-- Nothing is asked of given scans, and there are no groups.
abbrev pub NamesNoScans : List Row → Type 0
NamesNoScans rows = HasOption (codes "state") rows None
    × HasOption (codes "new-state") rows None
    × HasNumber (codes "at") rows None
    × HasNumber (codes "limit") rows None
    × IsOfOneScan rows
    × (HasFlag (codes "grouped") rows → ⊥)

-- no comparison is named
abbrev pub NamesNoDiff : List Row → Type 0
NamesNoDiff rows = (r : DiffRequest) → NamesDiff rows r → ⊥

abbrev pub NamesNoVerdicts : List Row → Type 0
NamesNoVerdicts rows = (r : VerdictRequest) → NamesVerdicts rows r → ⊥

abbrev pub NamesNoDiffRuns : List Row → Type 0
NamesNoDiffRuns rows = (r : DiffRunsRequest) → NamesDiffRuns rows r → ⊥
