-- How a request ends for a text about the program, the drawing of a scan, or what is written of a simulation: all is written, or a fault stops it.
use Rattle.std.specs.Prelude.{◌≡◌, ◌⊎◌, ◌++◌, if◌then◌else◌, ℕ, List, Bool, true, false, Option, None, Some, Result, Ok, Err, codes, decimal, [], flat_map, is_some, length, map, option_map, string_bytes, unwrap_or}
use Rattle.std.specs.Option.{option_or}
use Rattle.std.specs.Path.{path_file_name}
use Rattle.st_expression.specs.declared.expression.Expression.{Expression}
use Rattle.assume_reading.specs.Several.{AreAssumptions}
use Rattle.assume_truth.specs.Truth.{is_allowed}
use Rattle.diagram_declarations.specs.Decls.{Declared}
use Rattle.diagram_program.specs.Program.{Drawing, has_coil}
use Rattle.diagram_reader.specs.Titled.{HasProgram}
use Rattle.scan_cycle.specs.Programs.{diagram_of}
use Rattle.scan_cycle.specs.Standing.{Standing}
use Rattle.causes_query.specs.Assignment.{assignment}
use Rattle.causes_query.specs.declared.fault.CauseFault.{CauseFault}
use Rattle.causes_query.specs.declared.fault.CauseFault.TheVariants as cause
use Rattle.causes_query.specs.Causes as causes
use Rattle.causes_query.specs.Refusal.{scan_refusal}
use Rattle.text_drawing.specs.Showing.{IsDrawn, OneScan, one_scan}
use Rattle.text_drawing.specs.declared.picture.Style.{Style}
use Rattle.text_drawing.specs.declared.picture.Style.TheVariants as style
use Rattle.text_state.specs.StateText.{state_text}
use Rattle.io_text.specs.Log.{PutsAll, PutsPrefix, WriteLog}
use Rattle.text_trace.specs.declared.column.Column.{Column}
use Rattle.text_trace.specs.declared.fault.SimFault.{SimFault}
use Rattle.text_trace.specs.declared.recording.Film.{Film}
use Rattle.text_trace.specs.declared.fault.WatchFault.{WatchFault}
use Rattle.text_trace.specs.declared.fault.WatchFault.TheVariants as watch
use Rattle.text_trace.specs.Reached.{WatchesTold}
use Rattle.text_trace.specs.Simulation.{Films, SimulatesEvery, WavesEvery}
use Rattle.io_text.specs.Text.{lines_text}
use Rattle.text_warnings.specs.Told.{Told}
use Rattle.text_warnings.specs.Warnings.{warning_rows}
use Rattle.cli_inputs.specs.declared.fault.ToolFault.{ToolFault}
use Rattle.cli_inputs.specs.declared.fault.ToolFault.TheVariants as fault
use Rattle.cli_arguments.specs.declared.request.FilmRequest.{FilmRequest}
use Rattle.cli_arguments.specs.declared.request.Medium.{Medium}
use Rattle.cli_arguments.specs.declared.request.Medium.TheVariants as medium
use Rattle.cli_arguments.specs.declared.request.ShowRequest.{ShowRequest}
use Rattle.cli_arguments.specs.declared.request.WatchRequest.{WatchRequest}
use Rattle.cli_views.specs.Watched.{AreColumns, IsUnknownName}
use Rattle.cli_inputs.specs.Setting.{Given, HasSettingFault, IsSet, stimulus_records}
use Rattle.cli_inputs.specs.Variables.{AreListed, variable_of}
use Rattle.cli_inputs.specs.Reports.{HasCauseFault, HasWordFault, IsReported, Logs, names_in}
use Rattle.cli_assumed.specs.Assumed.{HasAssumptionFault}

-- ---- a text about the program alone

-- `rungs R variables V instances I`
abbrev pub check_line : Drawing → List ℕ
check_line p =
    codes "rungs " ++ (decimal p.rungs ++ (codes " variables " ++ (decimal (length p.decls.vars) ++ (codes " instances "
    ++ (decimal (length p.decls.instances) ++ codes "\n")))))

-- The same, and a row for each warning where it is warned.
abbrev pub check_text : Told → Bool → Drawing → List ℕ
check_text told false p = check_line p
check_text told true p = check_line p ++ lines_text (warning_rows told p)

-- The text about the program is written: whole, or as far as `Written` says.
abbrev pub Prints : (Drawing → List ℕ) → Given → (List ℕ → Type 0) → Type 0
Prints about g Written = (p : Drawing) × HasProgram g.aliases g.program p × Written (about p)

-- The same of a check, with rows for what is told.
abbrev pub Checks : Bool → Given → (List ℕ → Type 0) → Type 0
Checks warns g Written = (told : Told) × Prints (check_text told warns) g Written

-- ---- the drawing with its power flow

abbrev pub style_for : Medium → Style
style_for medium.Text = style.Marked
style_for medium.Page = style.Page

-- The variable whose coils are explained is that of the name, where there is one.
abbrev pub IsExplained : Declared → Option (List ℕ) → Option ℕ → Type 0
IsExplained decls name coil = option_map (variable_of decls) name ≡ option_map Some coil

-- The texts describe the program and the state before the scan, and the names are those of the coil's variable and of the listed inputs.
pub record IsViewed (g : Given) (r : ShowRequest) (p : Drawing) (s : Standing) (coil : Option ℕ) (listed : List ℕ) : Type 0 where
  pub set : IsSet g p s
  pub on : IsExplained p.decls (option_map string_bytes r.coil) coil
  pub among : AreListed p.decls r.all_inputs (map string_bytes r.inputs.items) listed

-- The moment of the scan is the stored one where none is asked for.
abbrev pub moment_of : ShowRequest → Standing → ℕ
moment_of r s = unwrap_or r.moment s.moment

-- The number of its assignment is 0 where none is asked for: all listed inputs are OFF.
abbrev pub number_of : ShowRequest → ℕ
number_of r = unwrap_or r.number 0

-- The variable that is explained is that of a coil.
abbrev pub coil_refusal : Drawing → Option ℕ → Option CauseFault
coil_refusal p None = None
coil_refusal p (Some var) = if has_coil var p then None else Some cause.NotACoil

-- the first rule that is broken: by the coil, and then by the scan
abbrev pub broken_first : ShowRequest → Drawing → Standing → Option ℕ → List ℕ → Option CauseFault
broken_first r p s coil listed =
    option_or (coil_refusal p coil) (scan_refusal (causes.question p s (moment_of r s) 0 listed) (number_of r))

-- the scan that is shown
abbrev pub shown_scan : Given → ShowRequest → Drawing → Standing → Option ℕ → List ℕ → OneScan
shown_scan g r p s coil listed = one_scan g.program p s (assignment (diagram_of p).inputs listed (number_of r) s.held.values) (moment_of r s) coil

-- the inputs of that scan
abbrev pub shown_inputs : ShowRequest → Drawing → Standing → List ℕ → List Bool
shown_inputs r p s listed = assignment (diagram_of p).inputs listed (number_of r) s.held.values

-- What is assumed of the inputs is read by the names of the program, and is true of these.
pub record AreAsAssumed (r : ShowRequest) (p : Drawing) (inputs : List Bool) : Type 0 where
  pub assumed : Option Expression
  pub read : AreAssumptions p.decls (map string_bytes r.assumed.items) assumed
  pub allowed : is_allowed assumed inputs ≡ true

-- `(* assumed: E *)` for each expression, below the drawing
abbrev pub assumed_note : List ℕ → List ℕ
assumed_note text = codes "(* assumed: " ++ (text ++ codes " *)\n")

abbrev pub assumed_notes : ShowRequest → List ℕ
assumed_notes r = flat_map assumed_note (map string_bytes r.assumed.items)

-- The drawing is written with the power flow of that scan, and what is assumed below it, whole or as far as `Written` says.
pub record Shows (g : Given) (r : ShowRequest) (Written : List ℕ → Type 0) : Type 0 where
  pub program : Drawing
  pub state : Standing
  pub coil : Option ℕ
  pub listed : List ℕ
  pub viewed : IsViewed g r program state coil listed
  pub accepted : broken_first r program state coil listed ≡ None
  pub as_assumed : AreAsAssumed r program (shown_inputs r program state listed)
  pub shown : List ℕ
  pub is : IsDrawn (style_for r.medium) (shown_scan g r program state coil listed) shown
  pub written : Written (shown ++ assumed_notes r)

-- An expression is refused, or what is assumed is false of the inputs.
abbrev pub HasAssumedFault : ShowRequest → Drawing → List Bool → ToolFault → Type 0
HasAssumedFault r p inputs f = HasAssumptionFault p.decls (map string_bytes r.assumed.items) f
    ⊎ ((assumed : Option Expression) × AreAssumptions p.decls (map string_bytes r.assumed.items) assumed × (f ≡ fault.NeverTrue) × (is_allowed assumed inputs ≡ false))

-- What is asked is refused, or then what is assumed.
abbrev pub IsScanRefused : ShowRequest → Drawing → Standing → Option ℕ → List ℕ → ToolFault → Type 0
IsScanRefused r p s coil listed f = HasCauseFault (broken_first r p s coil listed) f
    ⊎ ((broken_first r p s coil listed ≡ None) × HasAssumedFault r p (shown_inputs r p s listed) f)

-- Faults are looked for in this order: in the program text, in the state text, in the names, in what is asked, in what is assumed.
abbrev pub HasShowFault : Given → ShowRequest → ToolFault → Type 0
HasShowFault g r f =
    HasSettingFault g f
    ⊎ (((p : Drawing) × (s : Standing) × IsSet g p s × HasWordFault p.decls (names_in (option_map string_bytes r.coil) (map string_bytes r.inputs.items)) f)
    ⊎ ((p : Drawing) × (s : Standing) × (coil : Option ℕ) × (listed : List ℕ) × IsViewed g r p s coil listed × IsScanRefused r p s coil listed f))

-- ---- a simulation

-- The stimulus was simulated from the state that is given, with scans between its records where a time between two is given, with this
-- result, and this holds of the state after the last scan.
pub record Traces (g : Given) (every : Option ℕ) (out out' : WriteLog) (r : Result ℕ SimFault) (Saved : Drawing → Standing → Type 0) : Type 0 where
  pub program : Drawing
  pub before : Standing
  pub after : Standing
  pub set : IsSet g program before
  pub trace : SimulatesEvery (unwrap_or every 0) program before (stimulus_records g) after out out' r
  pub saved : Saved program after

-- The state is written where it is to be saved.
abbrev pub IsSaved : Bool → WriteLog → WriteLog → Drawing → Standing → Type 0
IsSaved true save save' p s = PutsAll save save' (state_text p s)
IsSaved false save save' p s = save' ≡ save

-- Status 0: the trace of the whole stimulus was written.
abbrev pub IsTraced : Given → Option ℕ → Bool → Logs → Logs → Type 0
IsTraced g every saves old new = (scans : ℕ) × Traces g every old.out new.out (Ok scans) (IsSaved saves old.save new.save) × (new.err ≡ old.err)

-- Status 1: a fault stopped the simulation, and no state was saved; or the state was to be saved, and `save` failed.
abbrev pub BreaksTrace : Given → Option ℕ → Bool → Logs → Logs → Type 0
BreaksTrace g every saves old new =
    ((f : SimFault) × Traces g every old.out new.out (Err f) (λ p s. new.save ≡ old.save) × IsReported g old.err new.err (fault.Sim f))
    ⊎ ((scans : ℕ) × (saves ≡ true) × Traces g every old.out new.out (Ok scans) (λ p s. PutsPrefix old.save new.save (state_text p s))
    × IsReported g old.err new.err fault.Write)

-- ---- a simulation with what is watched

-- The stimulus was simulated so, with what is watched beside the outputs, and with lines of how far it is on a second writer, where they are
-- asked for.
pub record Watches (g : Given) (r : WatchRequest) (out out' err err' : WriteLog) (end : Result ℕ WatchFault) (Saved : Drawing → Standing → Type 0) : Type 0 where
  pub program : Drawing
  pub before : Standing
  pub after : Standing
  pub columns : List Column
  pub set : IsSet g program before
  pub watched : AreColumns program.decls r.all (map string_bytes r.names.items) columns
  pub trace : WatchesTold r.progress r.changes columns (unwrap_or r.sim.every 0) program before (stimulus_records g) after out out' err err' end
  pub untold : r.progress ≡ false → err' ≡ err
  pub saved : Saved program after

-- Status 0: this trace of the whole stimulus was written, and nothing else on `err` than how far it was.
abbrev pub IsWatched : Given → WatchRequest → Logs → Logs → Type 0
IsWatched g r old new =
    (scans : ℕ) × Watches g r old.out new.out old.err new.err (Ok scans) (IsSaved (is_some r.sim.save) old.save new.save)

-- The first name that isn't declared, or being out of memory.
abbrev pub HasNameFault : Declared → List (List ℕ) → ToolFault → Type 0
HasNameFault decls words (fault.Watched number) = IsUnknownName decls words number
HasNameFault decls words fault.Memory = Unit {0}
HasNameFault decls words other = ⊥

-- Faults are looked for in this order: in the program text, in the state text, in the names, in the stimulus.
abbrev pub HasWatchFault : Given → WatchRequest → ToolFault → Type 0
HasWatchFault g r f =
    HasSettingFault g f ⊎ ((p : Drawing) × (s : Standing) × IsSet g p s × HasNameFault p.decls (map string_bytes r.names.items) f)

-- the fault of a simulation, or of the writer of its lines
abbrev pub watch_fault : WatchFault → ToolFault
watch_fault (watch.Sim f) = fault.Sim f
watch_fault watch.Lines = fault.Write

-- Status 1: a fault stopped the simulation, and no state was saved; or the state was to be saved, and `save` failed.
abbrev pub BreaksWatch : Given → WatchRequest → Logs → Logs → Type 0
BreaksWatch g r old new =
    ((f : WatchFault) × (told : WriteLog) × Watches g r old.out new.out old.err told (Err f) (λ p s. new.save ≡ old.save) × IsReported g told new.err (watch_fault f))
    ⊎ ((scans : ℕ) × (told : WriteLog) × (is_some r.sim.save ≡ true)
    × Watches g r old.out new.out old.err told (Ok scans) (λ p s. PutsPrefix old.save new.save (state_text p s)) × IsReported g told new.err fault.Write)

-- ---- the waveform of a stimulus

-- The stimulus was simulated so, and what its scans change was written, with this result.
pub record WritesWaves (g : Given) (every : Option ℕ) (out out' : WriteLog) (end : Result ℕ SimFault) : Type 0 where
  pub program : Drawing
  pub before : Standing
  pub after : Standing
  pub set : IsSet g program before
  pub waves : WavesEvery (unwrap_or every 0) program before (stimulus_records g) after out out' end

-- Status 0: the waveform of the whole stimulus was written.
abbrev pub IsWaved : Given → Option ℕ → WriteLog → WriteLog → Type 0
IsWaved g every out out' = (scans : ℕ) × WritesWaves g every out out' (Ok scans)

-- Status 1: a fault stopped the waveform.
abbrev pub BreaksWaves : Given → Option ℕ → Logs → Logs → Type 0
BreaksWaves g every old new = (reason : SimFault) × WritesWaves g every old.out new.out (Err reason) × IsReported g old.err new.err (fault.Sim reason)

-- ---- the film of a stimulus

abbrev pub frame_for : Medium → Style
frame_for medium.Text = style.MarkedFrame
frame_for medium.Page = style.PageFrame

-- the name of a file, without the folders of its path
abbrev pub title_for : List ℕ → List ℕ
title_for path = unwrap_or (path_file_name path) path

-- The film is that of the program text and of the coil's variable, drawn as it is asked for; its title is the name of the program's file.
pub record IsFilmOf (g : Given) (r : FilmRequest) (coil : Option ℕ) (film : Film) : Type 0 where
  pub drawn : film.style ≡ frame_for r.medium
  pub titled : film.title.now ≡ title_for (string_bytes r.file)
  pub described : film.text.now ≡ g.program
  pub explained : film.coil ≡ coil

-- The stimulus was shown from the state that is given, with this result.
pub record ShowsStimulus (g : Given) (r : FilmRequest) (out out' : WriteLog) (end : Result ℕ SimFault) : Type 0 where
  pub program : Drawing
  pub before : Standing
  pub after : Standing
  pub coil : Option ℕ
  pub set : IsSet g program before
  pub explained : IsExplained program.decls (option_map string_bytes r.coil) coil
  pub accepted : coil_refusal program coil ≡ None
  pub film : Film
  pub is : IsFilmOf g r coil film
  pub shown : Films film program before (stimulus_records g) after out out' end

-- Status 0: each record was shown.
abbrev pub IsFilmed : Given → FilmRequest → WriteLog → WriteLog → Type 0
IsFilmed g r out out' = (scans : ℕ) × ShowsStimulus g r out out' (Ok scans)

-- Faults are looked for in this order: in the program text, in the state text, in the coil's name, by its rule, in the stimulus.
abbrev pub HasFilmFault : Given → FilmRequest → ToolFault → Type 0
HasFilmFault g r reason =
    HasSettingFault g reason
    ⊎ (((p : Drawing) × (s : Standing) × IsSet g p s × HasWordFault p.decls (names_in (option_map string_bytes r.coil) []) reason)
    ⊎ ((p : Drawing) × (s : Standing) × (coil : Option ℕ) × IsSet g p s × IsExplained p.decls (option_map string_bytes r.coil) coil × HasCauseFault (coil_refusal p coil) reason))

-- Status 1: a fault stopped the film.
abbrev pub BreaksFilm : Given → FilmRequest → Logs → Logs → Type 0
BreaksFilm g r old new = (reason : SimFault) × ShowsStimulus g r old.out new.out (Err reason) × IsReported g old.err new.err (fault.Sim reason)
