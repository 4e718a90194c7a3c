-- What the arguments ask for, by the subcommand and the values of its arguments.
use Rattle.std.specs.Prelude.{◌≡◌, ◌⊎◌, ◌<◌, ◌+◌, ◌++◌, ◌-◌, ◌/◌, ◌^◌, ⊤, ℕ, zero, suc, min, Bool, true, false, List, Option, None, Some, map, codes, string_bytes, unwrap_or, option_map, [], String, is_some}
use Rattle.std.specs.Global.{Global}
use Rattle.std.specs.List.{list_all}
use Rattle.std.specs.Str.Parse.{IsNumeral, digits_value, without_leading_plus}
use Rattle.clap.specs.Words.{App, Row, Text, all_of, first_of, one_of, subcommand_of}
use Rattle.cli_options.specs.Pages.{is_fault_code}
use Rattle.cli_arguments.specs.declared.parts.TheConstants.{EVERY}
use Rattle.cli_arguments.specs.declared.lasting.Lasting.{Lasting}
use Rattle.cli_arguments.specs.declared.lasting.Lasting.TheVariants.{Count, Until}
use Rattle.cli_arguments.specs.declared.request.DiffForm.{DiffForm}
use Rattle.cli_arguments.specs.declared.request.DiffForm.TheVariants as diff
use Rattle.cli_arguments.specs.declared.request.DiffRequest.{DiffRequest}
use Rattle.cli_arguments.specs.declared.request.DiffRunsRequest.{DiffRunsRequest}
use Rattle.cli_arguments.specs.declared.request.Excluded.{Excluded}
use Rattle.cli_arguments.specs.declared.request.Excluded.TheVariants as excluded
use Rattle.cli_arguments.specs.declared.request.GroupFormat.{GroupFormat}
use Rattle.cli_arguments.specs.declared.request.GroupFormat.TheVariants.{Statement, Table, Terms}
use Rattle.cli_arguments.specs.declared.request.Grouping.{Grouping}
use Rattle.cli_arguments.specs.declared.request.InputOrder.{InputOrder}
use Rattle.cli_arguments.specs.declared.request.InputOrder.TheVariants.{Given, Sifted}
use Rattle.cli_arguments.specs.declared.request.Language.{Language}
use Rattle.cli_arguments.specs.declared.request.Language.TheVariants.{Diagram, Statements}
use Rattle.cli_arguments.specs.declared.request.Medium.{Medium}
use Rattle.cli_arguments.specs.declared.request.Medium.TheVariants as medium
use Rattle.cli_arguments.specs.declared.request.Pace.{Pace}
use Rattle.cli_arguments.specs.declared.request.Pace.TheVariants.{AnyMoments, Every}
use Rattle.cli_arguments.specs.declared.request.CommandLine.{CommandLine}
use Rattle.cli_arguments.specs.declared.request.ListRequest.{ListRequest}
use Rattle.cli_arguments.specs.declared.request.Request.{Request}
use Rattle.cli_arguments.specs.declared.request.Request.TheVariants.{Causes, Check, Draw, Expect, Export, Film, Groups, Held, Import, Never, Possible, Progress, Reach, Relevant, Show, Sim, Uses, Watch, Waves}
use Rattle.cli_arguments.specs.declared.request.RunsWanted.{RunsWanted}
use Rattle.cli_arguments.specs.declared.request.SimRequest.{SimRequest}
use Rattle.cli_arguments.specs.declared.request.Task.{Task}
use Rattle.cli_arguments.specs.declared.request.Task.TheVariants.{Compare, Explain, Judge, JudgeRuns, Perform, PerformAll}
use Rattle.cli_arguments.specs.declared.request.VerdictRequest.{VerdictRequest}
use Rattle.cli_arguments.specs.declared.request.WatchRequest.{WatchRequest}

abbrev pub HasText : Text → List Row → List ℕ → Type 0
HasText id rows text = first_of id rows ≡ Some text

-- the text of an option where it was given
abbrev pub HasOption : Text → List Row → Option (List ℕ) → Type 0
HasOption id rows text = first_of id rows ≡ text

-- the number of an option where it was given: a decimal number of 64 bits
abbrev pub HasNumber : Text → List Row → Option ℕ → Type 0
HasNumber id rows None = one_of id rows ≡ None
HasNumber id rows (Some n) = (text : Text) × (one_of id rows ≡ Some text) × IsNumeral 10 (without_leading_plus text)
    × (n ≡ digits_value 10 (without_leading_plus text)) × (n < 2 ^ 64)

-- the flag was given: `clap` then keeps this value for it
abbrev pub HasFlag : Text → List Row → Type 0
HasFlag id rows = HasText id rows (codes "true")

-- whether the flag was given
abbrev pub HasSwitch : Text → List Row → Bool → Type 0
HasSwitch id rows true = HasFlag id rows
HasSwitch id rows false = HasFlag id rows → ⊥

-- the form that the flags ask for; an alias is no name of Structured Text
abbrev pub HasForm : GroupFormat → List Row → Type 0
HasForm Table rows = (HasFlag (codes "terms") rows → ⊥) × (HasFlag (codes "st") rows → ⊥)
HasForm Terms rows = HasFlag (codes "terms") rows × (HasFlag (codes "st") rows → ⊥)
HasForm Statement rows = (HasFlag (codes "terms") rows → ⊥) × HasFlag (codes "st") rows × (HasFlag (codes "aliases") rows → ⊥)

-- What is to be shut out for ever: that a name comes ON, where no word says otherwise.
abbrev pub HasExcluded : Excluded → List Row → Type 0
HasExcluded excluded.On rows = (HasFlag (codes "off") rows → ⊥) × (HasFlag (codes "pairs") rows → ⊥)
HasExcluded excluded.Off rows = HasFlag (codes "off") rows × (HasFlag (codes "pairs") rows → ⊥)
HasExcluded excluded.BothOn rows = (HasFlag (codes "off") rows → ⊥) × HasFlag (codes "pairs") rows

-- Timers without a control input have it ON: an option says so, by the one word that it may have.
abbrev pub HasControl : Bool → List Row → Type 0
HasControl true rows = HasText (codes "control") rows (codes "on")
HasControl false rows = HasOption (codes "control") rows None

-- The language in which a program is to be written: one of them is named.
abbrev pub HasLanguage : Language → List Row → Type 0
HasLanguage Statements rows = HasFlag (codes "st") rows × (HasFlag (codes "xml") rows → ⊥)
HasLanguage Diagram rows = (HasFlag (codes "st") rows → ⊥) × HasFlag (codes "xml") rows

-- how a drawing is to be written
abbrev pub HasMedium : Medium → List Row → Type 0
HasMedium medium.Text rows = HasFlag (codes "html") rows → ⊥
HasMedium medium.Page rows = HasFlag (codes "html") rows

-- how an order is named
abbrev pub IsNamed : List ℕ → InputOrder → Type 0
IsNamed name Given = name ≡ codes "given"
IsNamed name Sifted = name ≡ codes "auto"

-- the order of the inputs that is asked for: as they are listed where no word says otherwise
abbrev pub HasOrder : InputOrder → List Row → Type 0
HasOrder order rows = ((first_of (codes "order") rows ≡ None) × (order ≡ Given))
    ⊎ (name : List ℕ) × HasText (codes "order") rows name × IsNamed name order

-- One state is asked of: no word says that any is, which, how long a search among them is, or that runs are to come to a row.
abbrev pub IsOfOneState : List Row → Type 0
IsOfOneState rows = (HasFlag (codes "any") rows → ⊥) × (HasFlag (codes "off") rows → ⊥) × (HasFlag (codes "must") rows → ⊥)
    × (HasFlag (codes "reachable") rows → ⊥)
    × HasNumber (codes "looks") rows None
    × (HasFlag (codes "runs") rows → ⊥)
    × HasNumber (codes "states") rows None

-- what is assumed: all values of the option in their order, and none where it isn't given
abbrev pub HasAssumed : List Row → List Text → Type 0
HasAssumed rows texts = unwrap_or (all_of (codes "assume") rows) [] ≡ texts

-- Nothing is assumed of inputs, by the request or by its text.
abbrev pub AssumesNothing : List Row → Type 0
AssumesNothing rows = HasOption (codes "assume") rows None × (HasFlag (codes "assumed") rows → ⊥)

-- A page doesn't name what is assumed, so nothing is.
abbrev pub NamesAssumptions : Medium → List Row → Type 0
NamesAssumptions medium.Text rows = ⊤
NamesAssumptions medium.Page rows = AssumesNothing rows

-- Each state counts, some one is to leave the coil ON, and each cause has a row of its own.
abbrev pub IsPlain : List Row → Type 0
IsPlain rows = (HasFlag (codes "off") rows → ⊥) × (HasFlag (codes "must") rows → ⊥) × (HasFlag (codes "grouped") rows → ⊥)

-- Which runs are to come to the rows of any state: none where no word asks for them, and then no state is named in which they begin, and no number of states to keep.
abbrev pub HasRuns : Option RunsWanted → List Row → Type 0
HasRuns None rows = (HasFlag (codes "runs") rows → ⊥) × HasOption (codes "state") rows None × HasNumber (codes "states") rows None
HasRuns (Some runs) rows = HasFlag (codes "runs") rows
    × HasOption (codes "state") rows (option_map string_bytes runs.state)
    × HasNumber (codes "states") rows runs.states
    × IsPlain rows

-- A statement is written whole or not at all.
abbrev pub MayHaveLimit : GroupFormat → Option ℕ → Type 0
MayHaveLimit Statement limit = limit ≡ None
MayHaveLimit form limit = ⊤

-- A statement has no limit.
abbrev pub IsWhole : GroupFormat → List Row → Type 0
IsWhole Statement rows = HasNumber (codes "limit") rows None
IsWhole form rows = ⊤

-- how groups are asked for
abbrev pub HasGrouping : List Row → Grouping → Type 0
HasGrouping rows g = HasForm g.form rows
    × HasOrder g.order rows
    × IsWhole g.form rows

-- Each cause has a row of its own: groups, their forms and their order aren't asked for.
abbrev pub IsTable : List Row → Type 0
IsTable rows = (HasFlag (codes "grouped") rows → ⊥) × HasForm Table rows × HasOrder Given rows

-- the time from each scan to the next: 10 ms where no word says otherwise
abbrev pub HasEvery : ℕ → List Row → Type 0
HasEvery every rows = HasNumber (codes "every") rows (Some every) ⊎ (HasNumber (codes "every") rows None × (every ≡ EVERY))

-- How many scans are made up to a time after the first one's moment, and at it. Where no time is between two of them, more than any limit.
abbrev pub scans_until : ℕ → ℕ → ℕ
scans_until time zero = 2 ^ 64 - 1
scans_until time (suc every) = min (time / suc every + 1) (2 ^ 64 - 1)

-- how long several scans last: their number is given, or the time up to which they are made
abbrev pub HasLasting : Lasting → List Row → Type 0
HasLasting (Count scans) rows = HasNumber (codes "scans") rows (Some scans) × HasNumber (codes "for") rows None
HasLasting (Until time) rows = HasNumber (codes "scans") rows None × HasNumber (codes "for") rows (Some time)

-- how many scans there are: the number that is given, or those up to a time
abbrev pub HasScans : ℕ → ℕ → List Row → Type 0
HasScans scans every rows = (HasNumber (codes "scans") rows (Some scans) × HasNumber (codes "for") rows None)
    ⊎ (HasNumber (codes "scans") rows None × ((time : ℕ) × HasNumber (codes "for") rows (Some time) × (scans ≡ scans_until time every)))

-- Each coil is meant.
abbrev pub IsOfAllCoils : List Row → Type 0
IsOfAllCoils rows = HasOption (codes "all-coils") rows None → ⊥

-- the name of the coil, which is empty where each is meant
abbrev pub HasCoil : List Row → List ℕ → Type 0
HasCoil rows name = (HasOption (codes "all-coils") rows None × HasText (codes "coil") rows name) ⊎ (IsOfAllCoils rows × (name ≡ []))

-- the names of the inputs, where each coil is meant or not: there none is named, so what stands in its place is the first input
abbrev pub inputs_for : Bool → List Row → List Text
inputs_for true rows = unwrap_or (all_of (codes "coil") rows) [] ++ unwrap_or (all_of (codes "inputs") rows) []
inputs_for false rows = unwrap_or (all_of (codes "inputs") rows) []

abbrev pub input_texts : List Row → List Text
input_texts rows = inputs_for (is_some (first_of (codes "all-coils") rows)) rows

-- The listed inputs are named, or all are listed and none is named.
pub record HasInputs (rows : List Row) (all : Bool) (names : List Text) : Type 0 where
  pub flag : HasSwitch (codes "all-inputs") rows all
  pub named : input_texts rows ≡ names
  pub either : all ≡ true → names ≡ []

-- What is watched is named, or all is watched and nothing is named.
pub record HasWatched (rows : List Row) (all : Bool) (names : List Text) : Type 0 where
  pub flag : HasSwitch (codes "watch-all") rows all
  pub named : unwrap_or (all_of (codes "watch") rows) [] ≡ names
  pub either : all ≡ true → names ≡ []

-- Nothing is watched beside the outputs, all rows are written, and nothing tells how far the trace is.
abbrev pub IsPlainTrace : List Row → Type 0
IsPlainTrace rows = HasWatched rows false [] × (HasFlag (codes "changes") rows → ⊥) × (HasFlag (codes "progress") rows → ⊥)

-- what a request for the trace of a stimulus names, but for what is watched
abbrev pub NamesTrace : List Row → SimRequest → Type 0
NamesTrace rows r = HasOption (codes "state") rows (option_map string_bytes r.state)
    × HasOption (codes "save") rows (option_map string_bytes r.save)
    × HasNumber (codes "every") rows r.every
    × HasText (codes "file") rows (string_bytes r.file)
    × HasText (codes "stimulus") rows (string_bytes r.stimulus)

-- the same with what is watched, of which rows are written, and whether lines tell how far the trace is
abbrev pub NamesWatch : List Row → WatchRequest → Type 0
NamesWatch rows r = HasWatched rows r.all (map string_bytes r.names.items)
    × HasSwitch (codes "changes") rows r.changes
    × HasSwitch (codes "progress") rows r.progress
    × NamesTrace rows r.sim

-- what a request for a list of causes names
abbrev pub NamesList : List Row → ListRequest → Type 0
NamesList rows l = HasOption (codes "state") rows (option_map string_bytes l.state)
    × HasNumber (codes "at") rows l.moment
    × HasNumber (codes "limit") rows l.limit
    × HasSwitch (codes "quiet") rows l.quiet
    × HasText (codes "file") rows (string_bytes l.file)
    × HasCoil rows (string_bytes l.coil)
    × HasInputs rows l.all_inputs (map string_bytes l.inputs.items)
    × HasAssumed rows (map string_bytes l.assumed.items)

-- No scan follows the first one.
abbrev pub IsSingle : List Row → Type 0
IsSingle rows = HasNumber (codes "scans") rows None × HasNumber (codes "for") rows None × HasNumber (codes "every") rows None

-- what a list with a row for each cause of one scan names, from the number that it begins after to the one that it ends at
abbrev pub NamesCauses : List Row → ListRequest → Option ℕ → Option ℕ → Type 0
NamesCauses rows list after upto = IsTable rows
    × IsSingle rows
    × HasNumber (codes "after") rows after
    × NamesList rows list
    × IsOfOneState rows
    × (HasFlag (codes "relevant") rows → ⊥)
    × HasNumber (codes "upto") rows upto

-- Each cause has a row of its own, after a number where there is one, or they are in groups.
abbrev pub MayGroup : List Row → Option ℕ → Option ℕ → Option Grouping → Type 0
MayGroup rows limit after None = IsTable rows × HasNumber (codes "after") rows after
MayGroup rows limit after (Some g) = HasFlag (codes "grouped") rows
    × HasForm g.form rows
    × HasOrder g.order rows
    × (after ≡ None)
    × HasNumber (codes "after") rows after
    × MayHaveLimit g.form limit

-- when the scans of a run are: at any moments, or in a rhythm, and then of at most so many scans
abbrev pub HasPace : Pace → List Row → Type 0
HasPace (AnyMoments gap) rows = HasNumber (codes "every") rows None × HasNumber (codes "scans") rows None × HasNumber (codes "gap") rows gap
HasPace (Every every scans) rows = HasNumber (codes "every") rows (Some every) × HasNumber (codes "scans") rows scans × HasNumber (codes "gap") rows None

-- the request is what the subcommand's name and values say
abbrev pub Asks : Text → List Row → Request → Type 0
Asks name rows (Check file warns) = (name ≡ codes "check") × HasText (codes "file") rows (string_bytes file) × HasSwitch (codes "warn") rows warns
Asks name rows (Causes list after upto) = (name ≡ codes "causes") × NamesCauses rows list after upto × (HasFlag (codes "progress") rows → ⊥)
Asks name rows (Progress list after upto) = (name ≡ codes "causes")
    × NamesCauses rows list after upto
    × HasFlag (codes "progress") rows
Asks name rows (Held list scans every grouped) = (name ≡ codes "causes")
    × HasSwitch (codes "grouped") rows grouped
    × HasForm Table rows
    × HasOrder Given rows
    × HasScans scans every rows
    × HasEvery every rows
    × HasNumber (codes "after") rows None
    × NamesList rows list
    × IsOfOneState rows
    × (HasFlag (codes "relevant") rows → ⊥)
    × HasNumber (codes "upto") rows None
    × (HasFlag (codes "progress") rows → ⊥)
Asks name rows (Groups list grouping) = (name ≡ codes "causes")
    × HasFlag (codes "grouped") rows
    × HasForm grouping.form rows
    × HasOrder grouping.order rows
    × HasNumber (codes "scans") rows None
    × HasNumber (codes "for") rows None
    × HasNumber (codes "every") rows None
    × HasNumber (codes "after") rows None
    × MayHaveLimit grouping.form list.limit
    × NamesList rows list
    × IsOfOneState rows
    × (HasFlag (codes "relevant") rows → ⊥)
    × HasNumber (codes "upto") rows None
    × (HasFlag (codes "progress") rows → ⊥)
Asks name rows (Possible r) = (name ≡ codes "causes")
    × HasFlag (codes "any") rows
    × HasSwitch (codes "off") rows r.off
    × HasSwitch (codes "must") rows r.must
    × HasRuns r.runs rows
    × HasNumber (codes "at") rows None
    × HasSwitch (codes "grouped") rows r.grouped
    × HasForm Table rows
    × HasOrder Given rows
    × HasNumber (codes "scans") rows None
    × HasNumber (codes "for") rows None
    × HasNumber (codes "every") rows None
    × HasNumber (codes "after") rows None
    × HasNumber (codes "limit") rows r.limit
    × HasSwitch (codes "quiet") rows r.quiet
    × HasText (codes "file") rows (string_bytes r.file)
    × HasCoil rows (string_bytes r.coil)
    × HasInputs rows r.all_inputs (map string_bytes r.inputs.items)
    × (HasFlag (codes "relevant") rows → ⊥)
    × HasSwitch (codes "reachable") rows r.reachable
    × HasNumber (codes "looks") rows r.looks
    × HasNumber (codes "upto") rows None
    × (HasFlag (codes "progress") rows → ⊥)
    × HasAssumed rows (map string_bytes r.assumed.items)
Asks name rows (Relevant list after grouping) = (name ≡ codes "causes")
    × HasFlag (codes "relevant") rows
    × HasInputs rows false []
    × IsSingle rows
    × MayGroup rows list.limit after grouping
    × NamesList rows list
    × IsOfOneState rows
    × HasNumber (codes "upto") rows None
    × (HasFlag (codes "progress") rows → ⊥)
Asks name rows (Never r) = (name ≡ codes "never")
    × HasOption (codes "state") rows (option_map string_bytes r.state)
    × HasExcluded r.excluded rows
    × HasSwitch (codes "quiet") rows r.quiet
    × HasText (codes "file") rows (string_bytes r.file)
    × HasAssumed rows (map string_bytes r.assumed.items)
Asks name rows (Reach r) = (name ≡ codes "reach")
    × HasOption (codes "state") rows (option_map string_bytes r.state)
    × HasNumber (codes "at") rows r.moment
    × HasPace r.pace rows
    × HasNumber (codes "states") rows r.states
    × HasOption (codes "both") rows (option_map string_bytes r.both)
    × HasText (codes "file") rows (string_bytes r.file)
    × HasText (codes "name") rows (string_bytes r.name)
    × (unwrap_or (all_of (codes "inputs") rows) [] ≡ map string_bytes r.inputs.items)
    × HasSwitch (codes "progress") rows r.progress
    × HasAssumed rows (map string_bytes r.assumed.items)
Asks name rows (Show r) = (name ≡ codes "show")
    × HasOption (codes "stimulus") rows None
    × HasOption (codes "state") rows (option_map string_bytes r.state)
    × HasNumber (codes "at") rows r.moment
    × HasNumber (codes "number") rows r.number
    × HasMedium r.medium rows
    × HasOption (codes "coil") rows (option_map string_bytes r.coil)
    × HasText (codes "file") rows (string_bytes r.file)
    × HasInputs rows r.all_inputs (map string_bytes r.inputs.items)
    × HasAssumed rows (map string_bytes r.assumed.items)
    × NamesAssumptions r.medium rows
Asks name rows (Film r) = (name ≡ codes "show")
    × HasOption (codes "stimulus") rows (Some (string_bytes r.stimulus))
    × HasNumber (codes "at") rows None
    × HasNumber (codes "number") rows None
    × HasInputs rows false []
    × AssumesNothing rows
    × HasOption (codes "state") rows (option_map string_bytes r.state)
    × HasMedium r.medium rows
    × HasOption (codes "coil") rows (option_map string_bytes r.coil)
    × HasText (codes "file") rows (string_bytes r.file)
Asks name rows (Sim r) = (name ≡ codes "sim")
    × (HasFlag (codes "vcd") rows → ⊥)
    × HasOption (codes "expect") rows None
    × IsPlainTrace rows
    × NamesTrace rows r
Asks name rows (Watch r) = (name ≡ codes "sim")
    × (HasFlag (codes "vcd") rows → ⊥)
    × HasOption (codes "expect") rows None
    × (IsPlainTrace rows → ⊥)
    × NamesWatch rows r
Asks name rows (Expect r) = (name ≡ codes "sim")
    × (HasFlag (codes "vcd") rows → ⊥)
    × HasText (codes "expect") rows (string_bytes r.expected)
    × NamesWatch rows r.watch
Asks name rows (Waves r) = (name ≡ codes "sim")
    × HasFlag (codes "vcd") rows
    × HasOption (codes "save") rows None
    × HasOption (codes "expect") rows None
    × HasOption (codes "state") rows (option_map string_bytes r.state)
    × HasNumber (codes "every") rows r.every
    × HasText (codes "file") rows (string_bytes r.file)
    × HasText (codes "stimulus") rows (string_bytes r.stimulus)
    × IsPlainTrace rows
Asks name rows (Uses file) = (name ≡ codes "uses") × HasText (codes "file") rows (string_bytes file)
Asks name rows (Import r) = (name ≡ codes "import")
    × HasSwitch (codes "open") rows r.opened
    × HasControl r.control_on rows
    × HasText (codes "file") rows (string_bytes r.file)
    × HasOption (codes "hal") rows (option_map string_bytes r.hal)
    × HasOption (codes "pou") rows (option_map string_bytes r.pou)
Asks name rows (Draw file) = (name ≡ codes "draw") × HasText (codes "file") rows (string_bytes file)
Asks name rows (Export r) = (name ≡ codes "export")
    × HasLanguage r.language rows
    × HasOption (codes "name") rows (option_map string_bytes r.name)
    × HasSwitch (codes "bits") rows r.bits
    × HasSwitch (codes "codesys") rows r.codesys
    × HasText (codes "file") rows (string_bytes r.file)

-- The list has no part that begins or ends at a number, and nothing tells how far it is.
abbrev pub HasNoPart : List Row → Type 0
HasNoPart rows = HasNumber (codes "after") rows None × HasNumber (codes "upto") rows None × (HasFlag (codes "progress") rows → ⊥)

-- A row for each difference of one scan, from the number that the list begins after to the one that it ends at.
abbrev pub HasDiffRows : List Row → Option ℕ → Option ℕ → Type 0
HasDiffRows rows after upto = IsTable rows × IsSingle rows × HasNumber (codes "after") rows after × HasNumber (codes "upto") rows upto

-- Which differences, and how they are written: a row for each of one scan, with or without lines that tell how far the list is; a row for each over
-- several scans; or in groups, which have no numbers.
abbrev pub HasDiffForm : List Row → DiffForm → Type 0
HasDiffForm rows (diff.Rows after upto) = HasDiffRows rows after upto × (HasFlag (codes "progress") rows → ⊥)
HasDiffForm rows (diff.Progress after upto) = HasDiffRows rows after upto × HasFlag (codes "progress") rows
HasDiffForm rows (diff.Held scans every) = IsTable rows × HasScans scans every rows × HasEvery every rows × HasNoPart rows
HasDiffForm rows (diff.Groups g) = HasFlag (codes "grouped") rows × IsSingle rows × HasGrouping rows g × HasNoPart rows

-- Nothing is asked of runs, and no number of states that a search keeps.
abbrev pub NamesNoRunSearch : List Row → Type 0
NamesNoRunSearch rows = (HasFlag (codes "runs") rows → ⊥) × HasNumber (codes "states") rows None

-- Nothing is asked of all states, nor of runs: not how long a search is, which states count, or where states are saved.
abbrev pub NamesNoSearch : List Row → Type 0
NamesNoSearch rows = HasNumber (codes "looks") rows None × (HasFlag (codes "reachable") rows → ⊥) × HasOption (codes "save") rows None × NamesNoRunSearch rows

-- what a comparison of what two programs do with a coil names
abbrev pub NamesDiff : List Row → DiffRequest → Type 0
NamesDiff rows r = HasOption (codes "state") rows (option_map string_bytes r.state)
    × HasOption (codes "new-state") rows (option_map string_bytes r.new_state)
    × HasNumber (codes "at") rows r.moment
    × HasDiffForm rows r.form
    × HasNumber (codes "limit") rows r.limit
    × HasSwitch (codes "quiet") rows r.quiet
    × HasText (codes "old") rows (string_bytes r.old)
    × HasText (codes "new") rows (string_bytes r.new)
    × HasText (codes "coil") rows (string_bytes r.coil)
    × HasInputs rows r.all_inputs (map string_bytes r.inputs.items)
    × HasSwitch (codes "aliases") rows r.aliases
    × HasSwitch (codes "why") rows r.why
    × NamesNoSearch rows
    × HasAssumed rows (map string_bytes r.assumed.items)
    × HasSwitch (codes "assumed") rows r.takes_comments

-- Nothing is asked of given scans: no state, no moment, not how many scans there are, no part or form of a list.
abbrev pub NamesNoScan : List Row → Type 0
NamesNoScan rows = HasOption (codes "state") rows None
    × HasOption (codes "new-state") rows None
    × HasNumber (codes "at") rows None
    × HasNumber (codes "limit") rows None
    × IsSingle rows
    × HasNoPart rows
    × IsTable rows

-- what a comparison of two programs name by name names: no coil, no inputs
abbrev pub NamesVerdicts : List Row → VerdictRequest → Type 0
NamesVerdicts rows r = HasOption (codes "coil") rows None
    × HasInputs rows false []
    × NamesNoScan rows
    × NamesNoRunSearch rows
    × HasNumber (codes "looks") rows r.looks
    × HasSwitch (codes "reachable") rows r.reachable
    × HasOption (codes "save") rows (option_map string_bytes r.save)
    × HasSwitch (codes "quiet") rows r.quiet
    × HasText (codes "old") rows (string_bytes r.old)
    × HasText (codes "new") rows (string_bytes r.new)
    × HasSwitch (codes "aliases") rows r.aliases
    × HasSwitch (codes "why") rows r.why
    × HasAssumed rows (map string_bytes r.assumed.items)
    × HasSwitch (codes "assumed") rows r.takes_comments

-- what a comparison of the runs of two programs name by name names: no coil, no inputs
abbrev pub NamesDiffRuns : List Row → DiffRunsRequest → Type 0
NamesDiffRuns rows r = HasOption (codes "coil") rows None
    × HasInputs rows false []
    × NamesNoScan rows
    × HasFlag (codes "runs") rows
    × HasNumber (codes "states") rows r.states
    × HasNumber (codes "looks") rows None
    × (HasFlag (codes "reachable") rows → ⊥)
    × HasOption (codes "save") rows (option_map string_bytes r.save)
    × HasSwitch (codes "quiet") rows r.quiet
    × HasText (codes "old") rows (string_bytes r.old)
    × HasText (codes "new") rows (string_bytes r.new)
    × HasSwitch (codes "aliases") rows r.aliases
    × HasSwitch (codes "why") rows r.why
    × HasAssumed rows (map string_bytes r.assumed.items)
    × HasSwitch (codes "assumed") rows r.takes_comments

-- the subcommand's name and values ask for no request
abbrev pub AsksNone : Text → List Row → Type 0
AsksNone name rows = (r : Request) → Asks name rows r → ⊥

-- the request and the flags of every subcommand are what the subcommand's name and values say
abbrev pub Says : Text → List Row → CommandLine → Type 0
Says name rows line = Asks name rows line.request
    × HasSwitch (codes "assumed") rows line.assumed
    × HasSwitch (codes "aliases") rows line.aliases
    × HasSwitch (codes "why") rows line.why

-- these names are given, and each is the code of a fault
abbrev pub NamesCodes : List Row → List (String Global) → Type 0
NamesCodes rows names = (unwrap_or (all_of (codes "codes") rows) [] ≡ map string_bytes names) × (list_all (λ name. is_fault_code (string_bytes name)) names ≡ true)

-- what is to be done: a request, a request for each coil, a comparison, or what `ladder explain` says of faults
abbrev pub HasTask : Text → List Row → Task → Type 0
HasTask name rows (Perform line) = Says name rows line × HasOption (codes "all-coils") rows None
HasTask name rows (PerformAll all) = Says name rows all.line × HasOption (codes "all-coils") rows (Some (string_bytes all.folder))
HasTask name rows (Compare r) = (name ≡ codes "diff") × NamesDiff rows r
HasTask name rows (Judge r) = (name ≡ codes "diff") × NamesVerdicts rows r
HasTask name rows (JudgeRuns r) = (name ≡ codes "diff") × NamesDiffRuns rows r
HasTask name rows (Explain names) = (name ≡ codes "explain") × NamesCodes rows names.items

-- the subcommand's name and values ask for nothing
abbrev pub HasNoTask : Text → List Row → Type 0
HasNoTask name rows = (t : Task) → HasTask name rows t → ⊥

-- the command takes the arguments, and they ask for this
abbrev pub AsksBy : App → List Text → Task → Type 0
AsksBy app words task = (name : Text) × (rows : List Row) × (subcommand_of app words ≡ Some (name, rows)) × HasTask name rows task

-- the arguments ask for nothing
abbrev pub AsksNothing : App → List Text → Type 0
AsksNothing app words = (task : Task) → AsksBy app words task → ⊥
