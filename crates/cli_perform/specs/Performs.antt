-- How a request ends: all is written, or a fault stops it.
use Rattle.std.specs.Prelude.{◌≡◌, ◌⊎◌, ℕ, Bool, List, Option, codes, is_some, option_map, string_bytes, unwrap_or}
use Rattle.io_text.specs.Log.{PutsAll, PutsPrefix}
use Rattle.text_cross_reference.specs.Uses.{uses_text}
use Rattle.cli_inputs.specs.declared.fault.ToolFault.{ToolFault}
use Rattle.cli_inputs.specs.declared.fault.ToolFault.TheVariants as fault
use Rattle.cli_arguments.specs.declared.request.ExportRequest.{ExportRequest}
use Rattle.cli_arguments.specs.declared.request.Request.{Request}
use Rattle.cli_arguments.specs.declared.request.Request.TheVariants.{Causes, Check, Draw, Export, Groups, Held, Import, Show, Sim, Uses}
use Rattle.cli_arguments.specs.declared.request.Request.TheVariants as request
use Rattle.cli_inputs.specs.Setting.{Given, HasProgramFault, HasSettingFault}
use Rattle.cli_inputs.specs.Reports.{IsReported, Logs, Refuses}
use Rattle.clp_project.specs.declared.reading.ReadingOptions.{ReadingOptions}
use Rattle.cli_draw.specs.Drawing.{BreaksDrawing, Draws}
use Rattle.cli_export.specs.Exporting.{BreaksExport, Exports}
use Rattle.cli_import.specs.Carrying.{BreaksCarrying, Carries}
use Rattle.cli_lists.specs.Assumed.{BreaksAllGroups, BreaksCauses, CountsAllGroups, CountsCauses, HasCausesFault, HasGroupsFault}
use Rattle.cli_lists.specs.AssumedHeld.{BreaksAllHeld, CountsAllHeld, HasAllHeldFault}
use Rattle.cli_lists.specs.AssumedProgress.{BreaksAllProgress, CountsAllProgress}
use Rattle.cli_lists.specs.AssumedRelevant.{BreaksAllRelevant, CountsAllRelevant, HasAllRelevantFault}
use Rattle.cli_lists.specs.Lists.{after_for, scans_of}
use Rattle.cli_states.specs.AnyState.{BreaksPossible, CountsPossible, HasPossibleFault}
use Rattle.cli_states.specs.Never.{BreaksAllNever, CountsAllNever, HasAllNeverFault}
use Rattle.cli_reach.specs.Asking.{HasReachFault}
use Rattle.cli_reach.specs.Reaching.{BreaksReach, TellsFound}
use Rattle.cli_views.specs.Expecting.{BreaksExpected, IsExpected}
use Rattle.cli_views.specs.Views.{BreaksFilm, BreaksTrace, BreaksWatch, BreaksWaves, Checks, HasFilmFault, HasShowFault, HasWatchFault, IsFilmed, IsTraced, IsWatched, IsWaved, Prints, Shows}

-- how the project of an import is read
abbrev pub reading_of : Bool → Bool → ReadingOptions
reading_of opened control_on = record { opened = opened; control_on = control_on }

-- the name that an exported program is to have
abbrev pub name_of : Option (List ℕ) → List ℕ
name_of name = unwrap_or name (codes "program0")

-- what the request names for it
abbrev pub name_for : ExportRequest → List ℕ
name_for r = name_of (option_map string_bytes r.name)

-- Status 0. Only a simulation writes on `save`; on `err` only a list, a search for a run, or a simulation that tells how far it is.
abbrev pub IsDone : Request → Given → Logs → Logs → Type 0
IsDone (Check file warns) g old new = Checks warns g (PutsAll old.out new.out) × (new.save ≡ old.save) × (new.err ≡ old.err)
IsDone (Causes list after upto) g old new = CountsCauses g list after upto old.out new.out (PutsAll old.err new.err) × (new.save ≡ old.save)
IsDone (request.Progress list after upto) g old new = CountsAllProgress g list after upto old new × (new.save ≡ old.save)
IsDone (Held list scans every grouped) g old new = CountsAllHeld grouped g list (scans_of scans every) old.out new.out (PutsAll old.err new.err) × (new.save ≡ old.save)
IsDone (request.Never r) g old new = CountsAllNever g r old.out new.out (PutsAll old.err new.err) × (new.save ≡ old.save)
IsDone (request.Reach r) g old new = TellsFound g r old.out new.out (PutsAll old.err new.err) × (new.save ≡ old.save)
IsDone (request.Possible r) g old new = CountsPossible g r old.out new.out (PutsAll old.err new.err) × (new.save ≡ old.save)
IsDone (Groups list grouping) g old new = CountsAllGroups g list grouping old.out new.out (PutsAll old.err new.err) × (new.save ≡ old.save)
IsDone (request.Relevant list after grouping) g old new = CountsAllRelevant g list after grouping old.out new.out (PutsAll old.err new.err) × (new.save ≡ old.save)
IsDone (Show r) g old new = Shows g r (PutsAll old.out new.out) × (new.save ≡ old.save) × (new.err ≡ old.err)
IsDone (request.Film r) g old new = IsFilmed g r old.out new.out × (new.save ≡ old.save) × (new.err ≡ old.err)
IsDone (Sim r) g old new = IsTraced g r.every (is_some r.save) old new
IsDone (request.Watch r) g old new = IsWatched g r old new
IsDone (request.Expect r) g old new = IsExpected g r old new
IsDone (request.Waves r) g old new = IsWaved g r.every old.out new.out × (new.save ≡ old.save) × (new.err ≡ old.err)
IsDone (Uses file) g old new = Prints uses_text g (PutsAll old.out new.out) × (new.save ≡ old.save) × (new.err ≡ old.err)
IsDone (Import r) g old new = Carries (reading_of r.opened r.control_on) (option_map string_bytes r.pou) g.program (PutsAll old.out new.out) × (new.save ≡ old.save) × (new.err ≡ old.err)
IsDone (Draw file) g old new = Draws g.program (PutsAll old.out new.out) × (new.save ≡ old.save) × (new.err ≡ old.err)
IsDone (Export r) g old new = Exports g r.language (name_for r) r.bits (PutsAll old.out new.out) × (new.save ≡ old.save) × (new.err ≡ old.err)

-- the faults that the texts and arguments of a request can have
abbrev pub HasFault : Request → Given → ToolFault → Type 0
HasFault (Check file warns) g = HasProgramFault g
HasFault (Causes list after upto) g = HasCausesFault g list after upto
HasFault (request.Progress list after upto) g = HasCausesFault g list after upto
HasFault (Held list scans every grouped) g = HasAllHeldFault grouped g list (scans_of scans every)
HasFault (request.Never r) g = HasAllNeverFault g r
HasFault (request.Reach r) g = HasReachFault g r
HasFault (request.Possible r) g = HasPossibleFault g r
HasFault (Groups list grouping) g = HasGroupsFault g list
HasFault (request.Relevant list after grouping) g = HasAllRelevantFault g list (after_for after grouping)
HasFault (Show r) g = HasShowFault g r
HasFault (request.Film r) g = HasFilmFault g r
HasFault (Sim r) g = HasSettingFault g
HasFault (request.Watch r) g = HasWatchFault g r
HasFault (request.Expect r) g = HasWatchFault g r.watch
HasFault (request.Waves r) g = HasSettingFault g
HasFault (Uses file) g = HasProgramFault g
HasFault (Import r) g = λ f. ⊥
HasFault (Draw file) g = λ f. ⊥
HasFault (Export r) g = HasProgramFault g

-- Status 1, by a fault while running.
abbrev pub Breaks : Request → Given → Logs → Logs → Type 0
Breaks (Check file warns) g old new =
    Checks warns g (PutsPrefix old.out new.out) × (new.save ≡ old.save) × IsReported g old.err new.err fault.Write
Breaks (Causes list after upto) g old new = BreaksCauses g list after upto old new × (new.save ≡ old.save)
Breaks (request.Progress list after upto) g old new = BreaksAllProgress g list after upto old new × (new.save ≡ old.save)
Breaks (Held list scans every grouped) g old new = BreaksAllHeld grouped g list (scans_of scans every) old new × (new.save ≡ old.save)
Breaks (request.Never r) g old new = BreaksAllNever g r old new × (new.save ≡ old.save)
Breaks (request.Reach r) g old new = BreaksReach g r old new × (new.save ≡ old.save)
Breaks (request.Possible r) g old new = BreaksPossible g r old new × (new.save ≡ old.save)
Breaks (Groups list grouping) g old new = BreaksAllGroups g list grouping old new × (new.save ≡ old.save)
Breaks (request.Relevant list after grouping) g old new = BreaksAllRelevant g list after grouping old new × (new.save ≡ old.save)
Breaks (Show r) g old new = Shows g r (PutsPrefix old.out new.out) × (new.save ≡ old.save) × IsReported g old.err new.err fault.Write
Breaks (request.Film r) g old new = BreaksFilm g r old new × (new.save ≡ old.save)
Breaks (Sim r) g old new = BreaksTrace g r.every (is_some r.save) old new
Breaks (request.Watch r) g old new = BreaksWatch g r old new
Breaks (request.Expect r) g old new = BreaksExpected g r old new
Breaks (request.Waves r) g old new = BreaksWaves g r.every old new × (new.save ≡ old.save)
Breaks (Uses file) g old new =
    Prints uses_text g (PutsPrefix old.out new.out) × (new.save ≡ old.save) × IsReported g old.err new.err fault.Write
Breaks (Import r) g old new = BreaksCarrying (reading_of r.opened r.control_on) g.why (option_map string_bytes r.pou) g.program old.out new.out old.err new.err × (new.save ≡ old.save)
Breaks (Draw file) g old new = BreaksDrawing g.why g.program old.out new.out old.err new.err × (new.save ≡ old.save)
Breaks (Export r) g old new = BreaksExport g r.language (name_for r) r.bits old.out new.out old.err new.err × (new.save ≡ old.save)

-- Status 1.
abbrev pub IsFailed : Request → Given → Logs → Logs → Type 0
IsFailed r g old new = Refuses g (HasFault r g) old new ⊎ Breaks r g old new
