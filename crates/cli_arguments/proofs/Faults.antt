-- Why the arguments ask for no request.
use Rattle.std.proofs.Common.{◌≡◌, ◌∙◌, ◌++◌, ℕ, Bool, true, false, List, [], ◌∷◌, Option, None, Some, ap, ap₂, arith, bytes_eq, codes, find, map, string_bytes, String, Global, ◌&&◌, get_or, inl, inr, is_some, option_and_then, option_map, refl, slice_get, subst, sym, unwrap_or, Vec}
use Rattle.std.specs.List.{list_all}
use Rattle.std.proofs.lemmas.Bool.{both_ways}
use Rattle.std.proofs.lemmas.Slice.Eq.{bytes_eq-Decides}
use Rattle.clap.specs.Words.{Row, Text, all_of, first_of}
use Rattle.cli_options.specs.Pages.{is_fault_code}
use Rattle.cli_arguments.specs.Asking.{Asks, AsksNone, HasCoil, HasControl, HasEvery, HasExcluded, HasFlag, HasForm, HasGrouping, HasInputs, HasLanguage, HasLasting, HasMedium, HasNoTask, HasNumber, HasOption, HasOrder, HasPace, HasRuns, HasScans, HasSwitch, HasWatched, IsNamed, IsOfOneState, IsPlain, IsPlainTrace, IsSingle, IsTable, IsWhole, MayGroup, MayHaveLimit, NamesAssumptions, NamesCauses, NamesList, NamesTrace, NamesWatch, input_texts, inputs_for}
use Rattle.cli_arguments.specs.Parts.{IsOfAnyState, IsOfOneScan, IsOfRecords, IsUncut, MayLast, NamesNoDiff, NamesNoDiffRuns, NamesNoEnd, NamesNoRuns, NamesNoStates, NamesNoVerdicts, NamesScan, Plays}
use Rattle.cli_arguments.specs.Faults.{UsageWhere}
use Rattle.cli_arguments.specs.declared.request.GroupFormat.{GroupFormat}
use Rattle.cli_arguments.specs.declared.request.GroupFormat.TheVariants.{Statement, Table, Terms}
use Rattle.cli_arguments.specs.declared.request.InputOrder.{InputOrder}
use Rattle.cli_arguments.specs.declared.request.InputOrder.TheVariants.{Given, Sifted}
use Rattle.cli_arguments.specs.declared.request.ListRequest.{ListRequest}
use Rattle.cli_arguments.specs.declared.lasting.Lasting.{Lasting}
use Rattle.cli_arguments.specs.declared.parts.NamedScan.{NamedScan}
use Rattle.cli_arguments.specs.declared.simulating.Played.{Played}
use Rattle.cli_arguments.specs.declared.request.Grouping.{Grouping}
use Rattle.cli_arguments.specs.declared.request.ShowRequest.{ShowRequest}
use Rattle.cli_arguments.specs.declared.request.FilmRequest.{FilmRequest}
use Rattle.cli_arguments.specs.declared.request.ExpectRequest.{ExpectRequest}
use Rattle.cli_arguments.specs.declared.request.ExportRequest.{ExportRequest}
use Rattle.cli_arguments.specs.declared.request.ImportRequest.{ImportRequest}
use Rattle.cli_arguments.specs.declared.request.Language.{Language}
use Rattle.cli_arguments.specs.declared.request.Medium.{Medium}
use Rattle.cli_arguments.specs.declared.request.Medium.TheVariants as medium
use Rattle.cli_arguments.specs.declared.request.SimRequest.{SimRequest}
use Rattle.cli_arguments.specs.declared.request.WatchRequest.{WatchRequest}
use Rattle.cli_arguments.specs.declared.request.WavesRequest.{WavesRequest}
use Rattle.cli_arguments.specs.declared.request.PossibleRequest.{PossibleRequest}
use Rattle.cli_arguments.specs.declared.request.RunsWanted.{RunsWanted}
use Rattle.cli_arguments.specs.declared.request.Excluded.{Excluded}
use Rattle.cli_arguments.specs.declared.request.NeverRequest.{NeverRequest}
use Rattle.cli_arguments.specs.declared.request.Pace.{Pace}
use Rattle.cli_arguments.specs.declared.request.Pace.TheVariants.{AnyMoments, Every}
use Rattle.cli_arguments.specs.declared.request.ReachRequest.{ReachRequest}
use Rattle.cli_arguments.specs.declared.lasting.Lasting.TheVariants.{Count, Until}
use Rattle.cli_arguments.specs.declared.request.Request.TheVariants.{Causes, Check, Draw, Expect, Export, Film, Groups, Held, Import, Never, Possible, Progress, Reach, Relevant, Show, Sim, Uses, Watch, Waves}
use Rattle.cli_arguments.specs.declared.request.WordFault.{WordFault}
use Rattle.cli_arguments.specs.declared.request.WordFault.TheVariants.{Broken, Help, Memory, Mistake, NoCode, Usage}
use Rattle.cli_arguments.specs.declared.request.Task.TheVariants.{Compare, Explain, Judge, JudgeRuns, Perform, PerformAll}

pub usage_weaker : {P Q : Type 0} (e : WordFault) → (P → Q) → UsageWhere P e → UsageWhere Q e
usage_weaker Usage f p = f p
usage_weaker (Broken b) f p = absurd p
usage_weaker (NoCode word) f p = (f p.0, p.1)
usage_weaker (Mistake text) f p = absurd p
usage_weaker (Help text) f p = absurd p
usage_weaker Memory f p = tt

pub out_of_memory : (P : Type 0) (e : WordFault) → e ≡ Memory → UsageWhere P e
out_of_memory P e m = rw m tt

pub no_order : (rows : List Row) (text : Text) → first_of (codes "order") rows ≡ Some text → ((o : InputOrder) → IsNamed text o → ⊥)
    → (o : InputOrder) → HasOrder o rows → ⊥
no_order rows text is none o (inl h) = let bad = sym is ∙ h.0 in cc
no_order rows text is none o (inr h) =
    let both = sym h.1 ∙ is in
    let same : h.0 ≡ text = cc in
    none o (rw same at h.2)

-- ---- requests by their subcommands
-- what two words that differ can't have
apart : {P : Type 0} (name other : List ℕ) → bytes_eq name other ≡ false → name ≡ other → P
apart name other differ same = absurd (both_ways (bytes_eq name other) differ ((bytes_eq-Decides name other).1 same))

abbrev NoneOfCauses : List ℕ → List Row → Type 0
NoneOfCauses name rows =
    ((list : ListRequest) (after upto : Option ℕ) → Asks name rows (Causes list after upto) → ⊥)
    × ((list : ListRequest) (after upto : Option ℕ) → Asks name rows (Progress list after upto) → ⊥)
    × ((list : ListRequest) (scans every : ℕ) (grouped : Bool) → Asks name rows (Held list scans every grouped) → ⊥)
    × ((list : ListRequest) (grouping : Grouping) → Asks name rows (Groups list grouping) → ⊥)
    × ((r : PossibleRequest) → Asks name rows (Possible r) → ⊥)
    × ((list : ListRequest) (after : Option ℕ) (grouping : Option Grouping) → Asks name rows (Relevant list after grouping) → ⊥)

-- A subcommand asks for the requests of its name alone.
module _ (name : List ℕ) (rows : List Row)
    (check : name ≡ codes "check" → (file : String Global) (warns : Bool) → Asks name rows (Check file warns) → ⊥)
    (causes : name ≡ codes "causes" → NoneOfCauses name rows)
    (show : name ≡ codes "show" → ((r : ShowRequest) → Asks name rows (Show r) → ⊥) × ((r : FilmRequest) → Asks name rows (Film r) → ⊥))
    (sim : name ≡ codes "sim" → ((r : SimRequest) → Asks name rows (Sim r) → ⊥) × ((r : WatchRequest) → Asks name rows (Watch r) → ⊥) × ((r : ExpectRequest) → Asks name rows (Expect r) → ⊥) × ((r : WavesRequest) → Asks name rows (Waves r) → ⊥))
    (uses : name ≡ codes "uses" → (file : String Global) → Asks name rows (Uses file) → ⊥)
    (never : name ≡ codes "never" → (r : NeverRequest) → Asks name rows (Never r) → ⊥)
    (reach : name ≡ codes "reach" → (r : ReachRequest) → Asks name rows (Reach r) → ⊥)
    (import : name ≡ codes "import" → (r : ImportRequest) → Asks name rows (Import r) → ⊥)
    (draw : name ≡ codes "draw" → (file : String Global) → Asks name rows (Draw file) → ⊥)
    (export : name ≡ codes "export" → (r : ExportRequest) → Asks name rows (Export r) → ⊥) where
  by_subcommand : AsksNone name rows
  by_subcommand (Check file warns) h = check h.0 file warns h
  by_subcommand (Causes list after upto) h = (causes h.0).0 list after upto h
  by_subcommand (Progress list after upto) h = (causes h.0).1 list after upto h
  by_subcommand (Held list scans every grouped) h = (causes h.0).2 list scans every grouped h
  by_subcommand (Groups list grouping) h = (causes h.0).3 list grouping h
  by_subcommand (Possible r) h = (causes h.0).4 r h
  by_subcommand (Relevant list after grouping) h = (causes h.0).5 list after grouping h
  by_subcommand (Show r) h = (show h.0).0 r h
  by_subcommand (Film r) h = (show h.0).1 r h
  by_subcommand (Sim r) h = (sim h.0).0 r h
  by_subcommand (Watch r) h = (sim h.0).1 r h
  by_subcommand (Expect r) h = (sim h.0).2 r h
  by_subcommand (Waves r) h = (sim h.0).3 r h
  by_subcommand (Uses file) h = uses h.0 file h
  by_subcommand (Never r) h = never h.0 r h
  by_subcommand (Reach r) h = reach h.0 r h
  by_subcommand (Import r) h = import h.0 r h
  by_subcommand (Draw file) h = draw h.0 file h
  by_subcommand (Export r) h = export h.0 r h

-- The subcommand that explains makes no request.
explains_alone : (rows : List Row) → AsksNone (codes "explain") rows
explains_alone rows = by_subcommand (codes "explain") rows (apart (codes "explain") (codes "check") refl) (apart (codes "explain") (codes "causes") refl) (apart (codes "explain") (codes "show") refl)
    (apart (codes "explain") (codes "sim") refl) (apart (codes "explain") (codes "uses") refl) (apart (codes "explain") (codes "never") refl) (apart (codes "explain") (codes "reach") refl) (apart (codes "explain") (codes "import") refl) (apart (codes "explain") (codes "draw") refl) (apart (codes "explain") (codes "export") refl)

abbrev pub all_codes : List (String Global) → Bool
all_codes names = list_all (λ name. is_fault_code (string_bytes name)) names

all_codes_of : (names : List (String Global)) → all_codes names ≡ list_all is_fault_code (map string_bytes names)
all_codes_of [] = refl
all_codes_of (name ∷ names) = ap (λ b. is_fault_code (string_bytes name) && b) (all_codes_of names)

-- A name is no code.
pub no_pages : (rows : List Row) (names : List (String Global)) → unwrap_or (all_of (codes "codes") rows) [] ≡ map string_bytes names → all_codes names ≡ false
    → HasNoTask (codes "explain") rows
no_pages rows names given none (Perform line) h = explains_alone rows line.request h.0.0
no_pages rows names given none (PerformAll all) h = explains_alone rows all.line.request h.0.0
no_pages rows names given none (Compare r) h = apart (codes "explain") (codes "diff") refl h.0
no_pages rows names given none (Judge r) h = apart (codes "explain") (codes "diff") refl h.0
no_pages rows names given none (JudgeRuns r) h = apart (codes "explain") (codes "diff") refl h.0
no_pages rows names given none (Explain other) h =
    let same = all_codes_of names ∙ ap (λ texts. list_all is_fault_code texts) (sym given ∙ h.1.0) ∙ sym (all_codes_of other.items) in
    let bad = sym none ∙ same ∙ h.1.1 in
    cc

pub no_check : (rows : List Row) → first_of (codes "file") rows ≡ None → AsksNone (codes "check") rows
no_check rows none = by_subcommand (codes "check") rows (λ _ file warns h. let some = h.1 in cc) (apart (codes "check") (codes "causes") refl) (apart (codes "check") (codes "show") refl)
    (apart (codes "check") (codes "sim") refl) (apart (codes "check") (codes "uses") refl) (apart (codes "check") (codes "never") refl) (apart (codes "check") (codes "reach") refl) (apart (codes "check") (codes "import") refl) (apart (codes "check") (codes "draw") refl) (apart (codes "check") (codes "export") refl)

pub only_causes : (rows : List Row)
    → ((list : ListRequest) (after upto : Option ℕ) → NamesCauses rows list after upto → ⊥)
    → ((list : ListRequest) (scans every : ℕ) (grouped : Bool) → Asks (codes "causes") rows (Held list scans every grouped) → ⊥)
    → ((list : ListRequest) (grouping : Grouping) → Asks (codes "causes") rows (Groups list grouping) → ⊥)
    → ((r : PossibleRequest) → Asks (codes "causes") rows (Possible r) → ⊥)
    → ((list : ListRequest) (after : Option ℕ) (grouping : Option Grouping) → Asks (codes "causes") rows (Relevant list after grouping) → ⊥)
    → AsksNone (codes "causes") rows
only_causes rows causes held groups possible relevant =
    by_subcommand (codes "causes") rows (apart (codes "causes") (codes "check") refl)
    (λ _. ((λ list after upto h. causes list after upto h.1), (λ list after upto h. causes list after upto h.1), held, groups, possible, relevant))
    (apart (codes "causes") (codes "show") refl) (apart (codes "causes") (codes "sim") refl) (apart (codes "causes") (codes "uses") refl) (apart (codes "causes") (codes "never") refl) (apart (codes "causes") (codes "reach") refl) (apart (codes "causes") (codes "import") refl) (apart (codes "causes") (codes "draw") refl) (apart (codes "causes") (codes "export") refl)

-- What some state switches on is asked for by a flag, and the other lists without it.
only_possible : (rows : List Row) → HasFlag (codes "any") rows → ((r : PossibleRequest) → Asks (codes "causes") rows (Possible r) → ⊥)
    → AsksNone (codes "causes") rows
only_possible rows any none = only_causes rows (λ list after upto h. h.4.0 any) (λ list scans every grouped h. h.8.0 any) (λ list grouping h. h.10.0 any) none (λ list after grouping h. h.6.0 any)

only_of_one_state : (rows : List Row) → IsOfOneState rows → (HasFlag (codes "relevant") rows → ⊥)
    → ((list : ListRequest) (after upto : Option ℕ) → NamesCauses rows list after upto → ⊥)
    → ((list : ListRequest) (scans every : ℕ) (grouped : Bool) → Asks (codes "causes") rows (Held list scans every grouped) → ⊥)
    → ((list : ListRequest) (grouping : Grouping) → Asks (codes "causes") rows (Groups list grouping) → ⊥)
    → AsksNone (codes "causes") rows
only_of_one_state rows one_state named causes held groups = only_causes rows causes held groups (λ r h. one_state.0 h.1) (λ list after grouping h. named h.1)

-- Which states are meant is said of any state alone.
pub no_one_state : (rows : List Row) → (HasFlag (codes "any") rows → ⊥) → (NamesNoStates rows → ⊥) → AsksNone (codes "causes") rows
no_one_state rows not_any none =
    only_causes rows (λ list after upto h. none (states_of h.4)) (λ list scans every grouped h. none (states_of h.8))
    (λ list grouping h. none (states_of h.10)) (λ r h. not_any h.1)
    (λ list after grouping h. none (states_of h.6))
  where
    states_of : IsOfOneState rows → NamesNoStates rows
    states_of one_state = (one_state.1, one_state.2, one_state.3, one_state.4, one_state.5, one_state.6)

pub only_show : (rows : List Row)
    → ((r : ShowRequest) → Asks (codes "show") rows (Show r) → ⊥)
    → ((r : FilmRequest) → Asks (codes "show") rows (Film r) → ⊥)
    → AsksNone (codes "show") rows
only_show rows show film =
    by_subcommand (codes "show") rows (apart (codes "show") (codes "check") refl) (apart (codes "show") (codes "causes") refl) (λ _. (show, film))
    (apart (codes "show") (codes "sim") refl) (apart (codes "show") (codes "uses") refl) (apart (codes "show") (codes "never") refl) (apart (codes "show") (codes "reach") refl) (apart (codes "show") (codes "import") refl) (apart (codes "show") (codes "draw") refl) (apart (codes "show") (codes "export") refl)

pub only_sim : (rows : List Row)
    → ((r : SimRequest) → Asks (codes "sim") rows (Sim r) → ⊥)
    → ((r : WatchRequest) → Asks (codes "sim") rows (Watch r) → ⊥)
    → ((r : ExpectRequest) → Asks (codes "sim") rows (Expect r) → ⊥)
    → ((r : WavesRequest) → Asks (codes "sim") rows (Waves r) → ⊥)
    → AsksNone (codes "sim") rows
only_sim rows sim watch expect waves =
    by_subcommand (codes "sim") rows (apart (codes "sim") (codes "check") refl) (apart (codes "sim") (codes "causes") refl) (apart (codes "sim") (codes "show") refl)
    (λ _. (sim, watch, expect, waves)) (apart (codes "sim") (codes "uses") refl) (apart (codes "sim") (codes "never") refl) (apart (codes "sim") (codes "reach") refl) (apart (codes "sim") (codes "import") refl) (apart (codes "sim") (codes "draw") refl) (apart (codes "sim") (codes "export") refl)

pub no_uses : (rows : List Row) → first_of (codes "file") rows ≡ None → AsksNone (codes "uses") rows
no_uses rows none =
    by_subcommand (codes "uses") rows (apart (codes "uses") (codes "check") refl) (apart (codes "uses") (codes "causes") refl) (apart (codes "uses") (codes "show") refl) (apart (codes "uses") (codes "sim") refl)
    (λ _ file h. let some = h.1 in cc) (apart (codes "uses") (codes "never") refl) (apart (codes "uses") (codes "reach") refl) (apart (codes "uses") (codes "import") refl) (apart (codes "uses") (codes "draw") refl) (apart (codes "uses") (codes "export") refl)

pub no_draw : (rows : List Row) → first_of (codes "file") rows ≡ None → AsksNone (codes "draw") rows
no_draw rows none =
    by_subcommand (codes "draw") rows (apart (codes "draw") (codes "check") refl) (apart (codes "draw") (codes "causes") refl) (apart (codes "draw") (codes "show") refl) (apart (codes "draw") (codes "sim") refl)
    (apart (codes "draw") (codes "uses") refl) (apart (codes "draw") (codes "never") refl) (apart (codes "draw") (codes "reach") refl) (apart (codes "draw") (codes "import") refl) (λ _ file h. let some = h.1 in cc) (apart (codes "draw") (codes "export") refl)

only_export : (rows : List Row) → ((r : ExportRequest) → Asks (codes "export") rows (Export r) → ⊥) → AsksNone (codes "export") rows
only_export rows export =
    by_subcommand (codes "export") rows (apart (codes "export") (codes "check") refl) (apart (codes "export") (codes "causes") refl) (apart (codes "export") (codes "show") refl) (apart (codes "export") (codes "sim") refl)
    (apart (codes "export") (codes "uses") refl) (apart (codes "export") (codes "never") refl) (apart (codes "export") (codes "reach") refl) (apart (codes "export") (codes "import") refl) (apart (codes "export") (codes "draw") refl) (λ _. export)

-- One language is named.
pub no_language : (rows : List Row) → ((l : Language) → HasLanguage l rows → ⊥) → AsksNone (codes "export") rows
no_language rows none = only_export rows (λ r h. none r.language h.1)

pub no_export : (rows : List Row) → first_of (codes "file") rows ≡ None → AsksNone (codes "export") rows
no_export rows none = only_export rows (λ r h. let some = h.5 in cc)

only_import : (rows : List Row)
    → ((r : ImportRequest) → Asks (codes "import") rows (Import r) → ⊥)
    → AsksNone (codes "import") rows
only_import rows import =
    by_subcommand (codes "import") rows (apart (codes "import") (codes "check") refl) (apart (codes "import") (codes "causes") refl) (apart (codes "import") (codes "show") refl)
    (apart (codes "import") (codes "sim") refl) (apart (codes "import") (codes "uses") refl) (apart (codes "import") (codes "never") refl) (apart (codes "import") (codes "reach") refl) (λ _. import) (apart (codes "import") (codes "draw") refl) (apart (codes "import") (codes "export") refl)

pub no_import : (rows : List Row) → first_of (codes "file") rows ≡ None → AsksNone (codes "import") rows
no_import rows none = only_import rows (λ r h. let some = h.3 in cc)

pub no_control : (rows : List Row) → ((on : Bool) → HasControl on rows → ⊥) → AsksNone (codes "import") rows
no_control rows none = only_import rows (λ r h. none r.control_on h.2)

-- a word that isn't the one of the option
pub no_control_of : (rows : List Row) (text : Text) → first_of (codes "control") rows ≡ Some text → (text ≡ codes "on" → ⊥) → (on : Bool) → HasControl on rows → ⊥
no_control_of rows text is other true h = let given : text ≡ codes "on" = let both = sym is ∙ h in cc in other given
no_control_of rows text is other false h = let bad = sym is ∙ h in cc

pub only_never : (rows : List Row)
    → ((r : NeverRequest) → Asks (codes "never") rows (Never r) → ⊥)
    → AsksNone (codes "never") rows
only_never rows never =
    by_subcommand (codes "never") rows (apart (codes "never") (codes "check") refl) (apart (codes "never") (codes "causes") refl) (apart (codes "never") (codes "show") refl)
    (apart (codes "never") (codes "sim") refl) (apart (codes "never") (codes "uses") refl) (λ _. never) (apart (codes "never") (codes "reach") refl) (apart (codes "never") (codes "import") refl) (apart (codes "never") (codes "draw") refl) (apart (codes "never") (codes "export") refl)

pub lasts : (rows : List Row) (scans every : ℕ) → HasScans scans every rows → (o : Option Lasting) × MayLast o rows
lasts rows scans every (inl h) = (Some (Count scans), h)
lasts rows scans every (inr h) = (Some (Until h.1.0), (h.0, h.1.1))

-- one scan, or several
pub no_lasting : (rows : List Row) → IsOfOneState rows → (HasFlag (codes "relevant") rows → ⊥) → ((o : Option Lasting) → MayLast o rows → ⊥) → AsksNone (codes "causes") rows
no_lasting rows one_state named none =
    only_of_one_state rows one_state named (λ list after upto h. none None (h.1.0, h.1.1)) (λ list scans every grouped h. let l = lasts rows scans every h.4 in none l.0 l.1)
    (λ list grouping h. none None (h.4, h.5))

not_several : (rows : List Row) (scans every : ℕ) → MayLast None rows → HasScans scans every rows → ⊥
not_several rows scans every none (inl h) = let some = h.0.1 in let no = none.0 in cc
not_several rows scans every none (inr h) = let some = h.1.1.1 in let no = none.1 in cc

-- Without groups a list of one scan has a row for each cause, and no form and order of groups.
pub no_list_of_grouping : (rows : List Row) → IsOfOneState rows → (HasFlag (codes "relevant") rows → ⊥) → (HasFlag (codes "grouped") rows → ⊥) → MayLast None rows
    → (HasForm Table rows → HasOrder Given rows → ⊥) → AsksNone (codes "causes") rows
no_list_of_grouping rows one_state named single one none =
    only_of_one_state rows one_state named (λ list after upto h. none h.0.1 h.0.2) (λ list scans every grouped h. not_several rows scans every one h.4) (λ list grouping h. single h.1)

-- One scan has none that follows.
pub no_list_of_every : (rows : List Row) → IsOfOneState rows → (HasFlag (codes "relevant") rows → ⊥) → (HasFlag (codes "grouped") rows → ⊥) → MayLast None rows → (HasNumber (codes "every") rows None → ⊥)
    → AsksNone (codes "causes") rows
no_list_of_every rows one_state named single one none =
    only_of_one_state rows one_state named (λ list after upto h. none h.1.2) (λ list scans every grouped h. not_several rows scans every one h.4) (λ list grouping h. single h.1)

pub no_list_of_start : (rows : List Row) → IsOfOneState rows → (HasFlag (codes "relevant") rows → ⊥) → ((o : Option ℕ) → HasNumber (codes "after") rows o → ⊥) → AsksNone (codes "causes") rows
no_list_of_start rows one_state named none =
    only_of_one_state rows one_state named (λ list after upto h. none after h.2) (λ list scans every grouped h. none None h.6) (λ list grouping h. none None h.7)

pub no_list_of_end : (rows : List Row) → IsOfOneState rows → (HasFlag (codes "relevant") rows → ⊥) → ((o : Option ℕ) → HasNumber (codes "upto") rows o → ⊥) → AsksNone (codes "causes") rows
no_list_of_end rows one_state named none =
    only_of_one_state rows one_state named (λ list after upto h. none upto h.6) (λ list scans every grouped h. none None h.10) (λ list grouping h. none None h.12)

pub no_causes_of_list : (rows : List Row) → IsOfOneState rows → (HasFlag (codes "relevant") rows → ⊥) → ((l : ListRequest) → NamesList rows l → ⊥) → AsksNone (codes "causes") rows
no_causes_of_list rows one_state named none =
    only_of_one_state rows one_state named (λ list after upto h. none list h.3) (λ list scans every grouped h. none list h.7) (λ list grouping h. none list h.9)

pub given_at_all : (rows : List Row) (l : Lasting) → HasLasting l rows → HasNumber (codes "scans") rows None → HasNumber (codes "for") rows None → ⊥
given_at_all rows (Count n) h none no_time = let given = h.0.1 in cc
given_at_all rows (Until time) h none no_time = let given = h.1.1 in cc

-- several scans, whose list begins after no number, ends at none and tells none that it is at
pub no_held_of_part : (rows : List Row) → IsOfOneState rows → (HasFlag (codes "relevant") rows → ⊥) → (l : Lasting) → HasLasting l rows → (IsUncut rows → ⊥) → AsksNone (codes "causes") rows
no_held_of_part rows one_state named l some none =
    only_of_one_state rows one_state named (λ list after upto h. given_at_all rows l some h.1.0 h.1.1) (λ list scans every grouped h. none (h.6, (h.10, h.11)))
    (λ list grouping h. none (h.7, (h.12, h.13)))

-- Their groups have one form, and the inputs the order in which they are listed.
pub no_held_of_grouping : (rows : List Row) → IsOfOneState rows → (HasFlag (codes "relevant") rows → ⊥) → (l : Lasting) → HasLasting l rows → (HasForm Table rows → HasOrder Given rows → ⊥) → AsksNone (codes "causes") rows
no_held_of_grouping rows one_state named l some none =
    only_of_one_state rows one_state named (λ list after upto h. given_at_all rows l some h.1.0 h.1.1) (λ list scans every grouped h. none h.2 h.3)
    (λ list grouping h. given_at_all rows l some h.4 h.5)

pub no_every : (rows : List Row) → ((o : Option ℕ) → HasNumber (codes "every") rows o → ⊥) → (every : ℕ) → HasEvery every rows → ⊥
no_every rows none every (inl h) = none (Some every) h
no_every rows none every (inr h) = none None h.0

-- The period is asked for beside several scans alone.
pub no_held_of_every : (rows : List Row) → IsOfOneState rows → (HasFlag (codes "relevant") rows → ⊥) → (l : Lasting) → HasLasting l rows → ((every : ℕ) → HasEvery every rows → ⊥) → AsksNone (codes "causes") rows
no_held_of_every rows one_state named l some none =
    only_of_one_state rows one_state named (λ list after upto h. given_at_all rows l some h.1.0 h.1.1) (λ list scans every grouped h. none every h.5)
    (λ list grouping h. given_at_all rows l some h.4 h.5)

pub no_groups_of_scan : (rows : List Row) → IsOfOneState rows → (HasFlag (codes "relevant") rows → ⊥) → HasFlag (codes "grouped") rows → MayLast None rows → (IsOfOneScan rows → ⊥) → AsksNone (codes "causes") rows
no_groups_of_scan rows one_state named grouped one none =
    only_of_one_state rows one_state named (λ list after upto h. h.0.0 grouped) (λ list scans every held h. not_several rows scans every one h.4)
    (λ list grouping h. none (h.4, h.5, h.6, (h.7, (h.12, h.13))))

is_whole : (rows : List Row) (form : GroupFormat) (limit : Option ℕ) → MayHaveLimit form limit → HasNumber (codes "limit") rows limit → IsWhole form rows
is_whole rows Table limit may h = tt
is_whole rows Terms limit may h = tt
is_whole rows Statement None may h = h
is_whole rows Statement (Some n) may h = cc

pub no_groups_of_grouping : (rows : List Row) → IsOfOneState rows → (HasFlag (codes "relevant") rows → ⊥) → HasFlag (codes "grouped") rows → MayLast None rows → ((g : Grouping) → HasGrouping rows g → ⊥)
    → AsksNone (codes "causes") rows
no_groups_of_grouping rows one_state named grouped one none =
    only_of_one_state rows one_state named (λ list after upto h. h.0.0 grouped) (λ list scans every held h. not_several rows scans every one h.4)
    (λ list grouping h. none grouping (h.2, h.3, is_whole rows grouping.form list.limit h.8 h.9.2))

-- the values of an option that was not given
no_first : (vs : List Text) → slice_get vs 0 ≡ None → vs ≡ []
no_first [] none = refl
no_first (v ∷ vs) none = cc

pub no_values : (id : Text) (rows : List Row) → first_of id rows ≡ None → unwrap_or (all_of id rows) [] ≡ []
no_values id rows none = go (find (λ r. bytes_eq r.id id) rows) none
  where
    go : (o : Option Row) → option_and_then (λ (r : Row). slice_get r.values 0) o ≡ None → unwrap_or (option_map (λ (r : Row). r.values) o) [] ≡ []
    go None e = refl
    go (Some r) e = no_first r.values e

pub no_value : (id : Text) (rows : List Row) → unwrap_or (all_of id rows) [] ≡ [] → first_of id rows ≡ None
no_value id rows none = go (find (λ r. bytes_eq r.id id) rows) none
  where
    go : (o : Option Row) → unwrap_or (option_map (λ (r : Row). r.values) o) [] ≡ [] → option_and_then (λ (r : Row). slice_get r.values 0) o ≡ None
    go None e = refl
    go (Some r) e = ap (λ (vs : List Text). slice_get vs 0) e

-- what some state switches on
pub no_possible_of_bound : (rows : List Row) → HasFlag (codes "any") rows → (IsOfAnyState rows → ⊥) → AsksNone (codes "causes") rows
no_possible_of_bound rows any none = only_possible rows any (λ r h. none (h.5, (h.9, h.10, h.11, (h.12, (h.21, h.22))), h.18))

pub no_possible_of_grouping : (rows : List Row) → HasFlag (codes "any") rows → (HasForm Table rows → HasOrder Given rows → ⊥) → AsksNone (codes "causes") rows
no_possible_of_grouping rows any none = only_possible rows any (λ r h. none h.7 h.8)

pub no_possible_of_runs : (rows : List Row) → HasFlag (codes "any") rows → ((o : Option RunsWanted) → HasRuns o rows → ⊥) → AsksNone (codes "causes") rows
no_possible_of_runs rows any none = only_possible rows any (λ r h. none r.runs h.4)

-- Runs are asked for by a flag.
pub no_runs_of_names : (rows : List Row) → (HasFlag (codes "runs") rows → ⊥) → (NamesNoRuns rows → ⊥) → (o : Option RunsWanted) → HasRuns o rows → ⊥
no_runs_of_names rows unasked none None h = none (h.1, h.2)
no_runs_of_names rows unasked none (Some runs) h = unasked h.0

pub no_runs_of_plain : (rows : List Row) → HasFlag (codes "runs") rows → (IsPlain rows → ⊥) → (o : Option RunsWanted) → HasRuns o rows → ⊥
no_runs_of_plain rows asked none None h = h.0 asked
no_runs_of_plain rows asked none (Some runs) h = none h.3

pub no_runs_of_states : (rows : List Row) → HasFlag (codes "runs") rows → ((o : Option ℕ) → HasNumber (codes "states") rows o → ⊥) → (o : Option RunsWanted) → HasRuns o rows → ⊥
no_runs_of_states rows asked none None h = h.0 asked
no_runs_of_states rows asked none (Some runs) h = none runs.states h.2

-- the state in which the runs begin that are asked for
abbrev start_of : Option RunsWanted → Option (String Global)
start_of None = None
start_of (Some runs) = runs.state

start_named : (rows : List Row) (o : Option RunsWanted) → HasRuns o rows → HasOption (codes "state") rows (option_map string_bytes (start_of o))
start_named rows None h = h.1
start_named rows (Some runs) h = h.1

pub no_possible_of_looks : (rows : List Row) → HasFlag (codes "any") rows → ((o : Option ℕ) → HasNumber (codes "looks") rows o → ⊥) → AsksNone (codes "causes") rows
no_possible_of_looks rows any none = only_possible rows any (λ r h. none r.looks h.20)

pub no_possible_of_list : (rows : List Row) → HasFlag (codes "any") rows → ((l : ListRequest) → NamesList rows l → ⊥) → AsksNone (codes "causes") rows
no_possible_of_list rows any none =
    only_possible rows any
    (λ r h.
    none
    (record { state = start_of r.runs; moment = None; limit = r.limit; quiet = r.quiet; file = r.file; coil = r.coil; all_inputs = r.all_inputs; inputs = r.inputs; assumed = r.assumed })
    (start_named rows r.runs h.4, h.5, h.13, h.14, h.15, h.16, h.17, h.23))

-- the inputs that matter
only_relevant : (rows : List Row) → HasFlag (codes "relevant") rows
    → ((list : ListRequest) (after : Option ℕ) (grouping : Option Grouping) → Asks (codes "causes") rows (Relevant list after grouping) → ⊥)
    → AsksNone (codes "causes") rows
only_relevant rows flag none = only_causes rows (λ list after upto h. h.5 flag) (λ list scans every grouped h. h.9 flag) (λ list grouping h. h.11 flag) (λ r h. h.18 flag) none

pub no_relevant_of_inputs : (rows : List Row) → HasFlag (codes "relevant") rows → (HasInputs rows false [] → ⊥) → AsksNone (codes "causes") rows
no_relevant_of_inputs rows flag none = only_relevant rows flag (λ list after grouping h. none h.2)

pub no_relevant_of_scans : (rows : List Row) → HasFlag (codes "relevant") rows → (IsSingle rows → ⊥) → AsksNone (codes "causes") rows
no_relevant_of_scans rows flag none = only_relevant rows flag (λ list after grouping h. none h.3)

pub no_relevant_of_end : (rows : List Row) → HasFlag (codes "relevant") rows → (NamesNoEnd rows → ⊥) → AsksNone (codes "causes") rows
no_relevant_of_end rows flag none = only_relevant rows flag (λ list after grouping h. none (h.7, h.8))

pub no_relevant_of_list : (rows : List Row) → HasFlag (codes "relevant") rows → ((l : ListRequest) → NamesList rows l → ⊥) → AsksNone (codes "causes") rows
no_relevant_of_list rows flag none = only_relevant rows flag (λ list after grouping h. none list h.5)

without_groups : (rows : List Row) → (HasFlag (codes "grouped") rows → ⊥) → (P : Type 0) → (limit after : Option ℕ) (grouping : Option Grouping) → MayGroup rows limit after grouping
    → (IsTable rows → HasNumber (codes "after") rows after → P) → P
without_groups rows single P limit after None h k = k h.0 h.1
without_groups rows single P limit after (Some g) h k = absurd (single h.0)

with_groups : (rows : List Row) → HasFlag (codes "grouped") rows → (P : Type 0) → (limit after : Option ℕ) (grouping : Option Grouping) → MayGroup rows limit after grouping
    → ((g : Grouping) → HasForm g.form rows → HasOrder g.order rows → HasNumber (codes "after") rows None → MayHaveLimit g.form limit → P) → P
with_groups rows grouped P limit after None h k = absurd (h.0.0 grouped)
with_groups rows grouped P limit after (Some g) h k = k g h.1 h.2 (subst (λ (o : Option ℕ). HasNumber (codes "after") rows o) h.3 h.4) h.5

pub no_relevant_of_grouping : (rows : List Row) → HasFlag (codes "relevant") rows → (HasFlag (codes "grouped") rows → ⊥) → (HasForm Table rows → HasOrder Given rows → ⊥)
    → AsksNone (codes "causes") rows
no_relevant_of_grouping rows flag single none =
    only_relevant rows flag (λ list after grouping h. without_groups rows single ⊥ list.limit after grouping h.4 (λ table start. none table.1 table.2))

pub no_relevant_of_start : (rows : List Row) → HasFlag (codes "relevant") rows → (HasFlag (codes "grouped") rows → ⊥) → ((o : Option ℕ) → HasNumber (codes "after") rows o → ⊥)
    → AsksNone (codes "causes") rows
no_relevant_of_start rows flag single none =
    only_relevant rows flag (λ list after grouping h. without_groups rows single ⊥ list.limit after grouping h.4 (λ table start. none after start))

pub no_relevant_groups_of_start : (rows : List Row) → HasFlag (codes "relevant") rows → HasFlag (codes "grouped") rows → (HasNumber (codes "after") rows None → ⊥)
    → AsksNone (codes "causes") rows
no_relevant_groups_of_start rows flag grouped none =
    only_relevant rows flag (λ list after grouping h. with_groups rows grouped ⊥ list.limit after grouping h.4 (λ g form order start limit. none start))

pub no_relevant_groups_of_grouping : (rows : List Row) → HasFlag (codes "relevant") rows → HasFlag (codes "grouped") rows → ((g : Grouping) → HasGrouping rows g → ⊥)
    → AsksNone (codes "causes") rows
no_relevant_groups_of_grouping rows flag grouped none =
    only_relevant rows flag
    (λ list after grouping h.
    with_groups rows grouped ⊥ list.limit after grouping h.4 (λ g form order start limit. none g (form, order, is_whole rows g.form list.limit limit h.5.2)))

-- One form is asked for.
one_form : (rows : List Row) (a b : GroupFormat) → HasForm a rows → HasForm b rows → a ≡ b
one_form rows Table Terms h k = absurd (h.0 k.0)
one_form rows Table Statement h k = absurd (h.1 k.1)
one_form rows Terms Table h k = absurd (k.0 h.0)
one_form rows Terms Statement h k = absurd (k.0 h.0)
one_form rows Statement Table h k = absurd (k.1 h.1)
one_form rows Statement Terms h k = absurd (h.0 k.0)
one_form rows _ _ h k = refl

pub no_grouping_of_cut : (rows : List Row) (form : GroupFormat) → HasForm form rows → (IsWhole form rows → ⊥) → (g : Grouping) → HasGrouping rows g → ⊥
no_grouping_of_cut rows form has cut g h = let same = one_form rows g.form form h.0 has in cut (rw same at h.2)

pub not_sifted : (rows : List Row) → HasOrder Sifted rows → HasOrder Given rows → ⊥
not_sifted rows (inl h) given = let other = h.1 in cc
not_sifted rows (inr h) (inl g) = let some = h.1 in let none = g.0 in cc
not_sifted rows (inr h) (inr g) =
    let same : h.0 ≡ g.0 = let some = h.1 in let other = g.1 in cc in
    let other : 97 ≡ 103 = ap (λ (name : List ℕ). get_or name 0 0) (sym h.2 ∙ same ∙ g.2) in
    absurd (omega (arith, other))

-- several scans, by their number or by a time
pub no_lasting_of_scans : (rows : List Row) → ((o : Option ℕ) → HasNumber (codes "scans") rows o → ⊥) → (l : Option Lasting) → MayLast l rows → ⊥
no_lasting_of_scans rows none None h = none None h.0
no_lasting_of_scans rows none (Some (Count n)) h = none (Some n) h.0
no_lasting_of_scans rows none (Some (Until time)) h = none None h.0

pub no_lasting_of_time : (rows : List Row) → ((o : Option ℕ) → HasNumber (codes "for") rows o → ⊥) → (l : Option Lasting) → MayLast l rows → ⊥
no_lasting_of_time rows none None h = none None h.1
no_lasting_of_time rows none (Some (Count n)) h = none None h.1
no_lasting_of_time rows none (Some (Until time)) h = none (Some time) h.1

-- the parts of a list of causes
pub no_list_of_limit : (rows : List Row) → ((o : Option ℕ) → HasNumber (codes "limit") rows o → ⊥) → (l : ListRequest) → NamesList rows l → ⊥
no_list_of_limit rows none l h = none l.limit h.2

pub no_list_of_coil : (rows : List Row) → ((name : Text) → HasCoil rows name → ⊥) → (l : ListRequest) → NamesList rows l → ⊥
no_list_of_coil rows none l h = none (string_bytes l.coil) h.5

pub no_list_of_scan : (rows : List Row) → ((s : NamedScan) → NamesScan rows s → ⊥) → (l : ListRequest) → NamesList rows l → ⊥
no_list_of_scan rows none l h =
    none (record { state = l.state; moment = l.moment; file = l.file; all_inputs = l.all_inputs; inputs = l.inputs }) (h.0, h.1, h.4, h.6)

-- a drawing of one scan
pub no_scan_of_number : (rows : List Row) → HasOption (codes "stimulus") rows None → ((o : Option ℕ) → HasNumber (codes "number") rows o → ⊥) → AsksNone (codes "show") rows
no_scan_of_number rows one none = only_show rows (λ r h. none r.number h.4) (λ r h. let some = h.1 in cc)

pub no_scan_of_scan : (rows : List Row) → HasOption (codes "stimulus") rows None → ((s : NamedScan) → NamesScan rows s → ⊥) → AsksNone (codes "show") rows
no_scan_of_scan rows one none =
    only_show rows
    (λ r h. none (record { state = r.state; moment = r.moment; file = r.file; all_inputs = r.all_inputs; inputs = r.inputs }) (h.2, h.3, h.7, h.8))
    (λ r h. let some = h.1 in cc)

-- a drawing is written in one way
one_medium : (rows : List Row) (m n : Medium) → HasMedium m rows → HasMedium n rows → NamesAssumptions n rows → NamesAssumptions m rows
one_medium rows medium.Text n is other h = tt
one_medium rows medium.Page medium.Page is other h = h
one_medium rows medium.Page medium.Text is other h = absurd (other is)

pub no_scan_of_page : (rows : List Row) → HasOption (codes "stimulus") rows None → (m : Medium) → HasMedium m rows → (NamesAssumptions m rows → ⊥) → AsksNone (codes "show") rows
no_scan_of_page rows one m is none = only_show rows (λ r h. none (one_medium rows m r.medium is h.5 h.10)) (λ r h. let some = h.1 in cc)

-- the drawings of a stimulus
pub no_film_of_scan : (rows : List Row) → (HasOption (codes "stimulus") rows None → ⊥) → (IsOfRecords rows → ⊥) → AsksNone (codes "show") rows
no_film_of_scan rows some none = only_show rows (λ r h. some h.1) (λ r h. none (h.2, h.3, h.4, h.5))

pub no_film_of_waves : (rows : List Row) → (HasOption (codes "stimulus") rows None → ⊥) → ((w : Played) → Plays rows w → ⊥) → AsksNone (codes "show") rows
no_film_of_waves rows some none =
    only_show rows (λ r h. some h.1) (λ r h. none (record { state = r.state; file = r.file; stimulus = r.stimulus }) (h.6, h.9, h.1))

-- the trace of a stimulus, and what is watched besides
pub no_trace : (rows : List Row) → (HasFlag (codes "vcd") rows → ⊥) → HasOption (codes "expect") rows None → IsPlainTrace rows
    → ((r : SimRequest) → NamesTrace rows r → ⊥) → AsksNone (codes "sim") rows
no_trace rows vcd unexpected nothing none =
    only_sim rows (λ r h. none r h.4) (λ r h. h.3 nothing) (λ r h. let some = h.2 in cc) (λ r h. vcd h.1)

pub no_watch : (rows : List Row) → (HasFlag (codes "vcd") rows → ⊥) → HasOption (codes "expect") rows None → (IsPlainTrace rows → ⊥)
    → ((r : WatchRequest) → NamesWatch rows r → ⊥) → AsksNone (codes "sim") rows
no_watch rows vcd unexpected some none = only_sim rows (λ r h. some h.3) (λ r h. none r h.4) (λ r h. let given = h.2 in cc) (λ r h. vcd h.1)

-- the same beside what is expected
pub no_expect : (rows : List Row) → (HasFlag (codes "vcd") rows → ⊥) → (HasOption (codes "expect") rows None → ⊥)
    → ((r : WatchRequest) → NamesWatch rows r → ⊥) → AsksNone (codes "sim") rows
no_expect rows vcd given none = only_sim rows (λ r h. given h.2) (λ r h. given h.2) (λ r h. none r.watch h.3) (λ r h. vcd h.1)

pub no_expect_of_name : (rows : List Row) → (HasFlag (codes "vcd") rows → ⊥) → (HasOption (codes "expect") rows None → ⊥)
    → first_of (codes "expect") rows ≡ None → AsksNone (codes "sim") rows
no_expect_of_name rows vcd given none = absurd (given none)

pub no_watch_of_names : (rows : List Row) → ((all : Bool) (names : List Text) → HasWatched rows all names → ⊥) → (r : WatchRequest) → NamesWatch rows r → ⊥
no_watch_of_names rows none r h = none r.all (map string_bytes r.names.items) h.0

pub no_watch_of_trace : (rows : List Row) → ((r : SimRequest) → NamesTrace rows r → ⊥) → (r : WatchRequest) → NamesWatch rows r → ⊥
no_watch_of_trace rows none r h = none r.sim h.3

-- The time between two scans is a number.
pub no_trace_of_every : (rows : List Row) → ((o : Option ℕ) → HasNumber (codes "every") rows o → ⊥) → (r : SimRequest) → NamesTrace rows r → ⊥
no_trace_of_every rows none r h = none r.every h.2

pub no_trace_of_played : (rows : List Row) → ((w : Played) → Plays rows w → ⊥) → (r : SimRequest) → NamesTrace rows r → ⊥
no_trace_of_played rows none r h = none (record { state = r.state; file = r.file; stimulus = r.stimulus }) (h.0, h.3, h.4)

-- the waveform of a stimulus
only_waves : (rows : List Row) → HasFlag (codes "vcd") rows → ((r : WavesRequest) → Asks (codes "sim") rows (Waves r) → ⊥) → AsksNone (codes "sim") rows
only_waves rows vcd waves = only_sim rows (λ r h. h.1 vcd) (λ r h. h.1 vcd) (λ r h. h.1 vcd) waves

pub no_waves_of_played : (rows : List Row) → HasFlag (codes "vcd") rows → ((w : Played) → Plays rows w → ⊥) → AsksNone (codes "sim") rows
no_waves_of_played rows vcd none =
    only_waves rows vcd (λ r h. none (record { state = r.state; file = r.file; stimulus = r.stimulus }) (h.4, h.6, h.7))

pub no_waves_of_every : (rows : List Row) → HasFlag (codes "vcd") rows → ((o : Option ℕ) → HasNumber (codes "every") rows o → ⊥) → AsksNone (codes "sim") rows
no_waves_of_every rows vcd none = only_waves rows vcd (λ r h. none r.every h.5)

-- A state is saved beside a trace.
pub no_waves_of_save : (rows : List Row) → HasFlag (codes "vcd") rows → (HasOption (codes "save") rows None → ⊥) → AsksNone (codes "sim") rows
no_waves_of_save rows vcd none = only_waves rows vcd (λ r h. none h.2)

-- A trace is expected.
pub no_waves_of_expect : (rows : List Row) → HasFlag (codes "vcd") rows → (HasOption (codes "expect") rows None → ⊥) → AsksNone (codes "sim") rows
no_waves_of_expect rows vcd none = only_waves rows vcd (λ r h. none h.3)

-- So is what is watched, which rows are written, and how far it is.
pub no_waves_of_rows : (rows : List Row) → HasFlag (codes "vcd") rows → (IsPlainTrace rows → ⊥) → AsksNone (codes "sim") rows
no_waves_of_rows rows vcd none = only_waves rows vcd (λ r h. none h.8)

-- what is read of a file that is not named
pub no_excluded : (rows : List Row) → ((e : Excluded) → HasExcluded e rows → ⊥) → AsksNone (codes "never") rows
no_excluded rows none = only_never rows (λ r h. none r.excluded h.2)

pub no_never : (rows : List Row) → first_of (codes "file") rows ≡ None → AsksNone (codes "never") rows
no_never rows none = only_never rows (λ r h. let some = h.3 in cc)

-- a run that switches something on
only_reach : (rows : List Row)
    → ((r : ReachRequest) → Asks (codes "reach") rows (Reach r) → ⊥)
    → AsksNone (codes "reach") rows
only_reach rows reach =
    by_subcommand (codes "reach") rows (apart (codes "reach") (codes "check") refl) (apart (codes "reach") (codes "causes") refl) (apart (codes "reach") (codes "show") refl)
    (apart (codes "reach") (codes "sim") refl) (apart (codes "reach") (codes "uses") refl) (apart (codes "reach") (codes "never") refl) (λ _. reach) (apart (codes "reach") (codes "import") refl) (apart (codes "reach") (codes "draw") refl) (apart (codes "reach") (codes "export") refl)

pub no_reach_of_moment : (rows : List Row) → ((o : Option ℕ) → HasNumber (codes "at") rows o → ⊥) → AsksNone (codes "reach") rows
no_reach_of_moment rows none = only_reach rows (λ r h. none r.moment h.2)

pub no_reach_of_pace : (rows : List Row) → ((p : Pace) → HasPace p rows → ⊥) → AsksNone (codes "reach") rows
no_reach_of_pace rows none = only_reach rows (λ r h. none r.pace h.3)

pub no_reach_of_states : (rows : List Row) → ((o : Option ℕ) → HasNumber (codes "states") rows o → ⊥) → AsksNone (codes "reach") rows
no_reach_of_states rows none = only_reach rows (λ r h. none r.states h.4)

pub no_reach_of_file : (rows : List Row) → first_of (codes "file") rows ≡ None → AsksNone (codes "reach") rows
no_reach_of_file rows none = only_reach rows (λ r h. let some = h.6 in cc)

pub no_reach_of_name : (rows : List Row) → first_of (codes "name") rows ≡ None → AsksNone (codes "reach") rows
no_reach_of_name rows none = only_reach rows (λ r h. let some = h.7 in cc)

-- the options that say when its scans are
pub no_pace_of_every : (rows : List Row) → ((o : Option ℕ) → HasNumber (codes "every") rows o → ⊥) → (p : Pace) → HasPace p rows → ⊥
no_pace_of_every rows none (AnyMoments gap) h = none None h.0
no_pace_of_every rows none (Every every scans) h = none (Some every) h.0

pub no_pace_of_scans : (rows : List Row) → ((o : Option ℕ) → HasNumber (codes "scans") rows o → ⊥) → (p : Pace) → HasPace p rows → ⊥
no_pace_of_scans rows none (AnyMoments gap) h = none None h.1
no_pace_of_scans rows none (Every every scans) h = none scans h.1

pub no_pace_of_gap : (rows : List Row) → ((o : Option ℕ) → HasNumber (codes "gap") rows o → ⊥) → (p : Pace) → HasPace p rows → ⊥
no_pace_of_gap rows none (AnyMoments gap) h = none gap h.2
no_pace_of_gap rows none (Every every scans) h = none None h.2

-- The names of the inputs, where one coil is meant and where each is.
pub inputs_of_one : (rows : List Row) → first_of (codes "all-coils") rows ≡ None → input_texts rows ≡ unwrap_or (all_of (codes "inputs") rows) []
inputs_of_one rows one = ap (λ (o : Option Text). inputs_for (is_some o) rows) one

pub inputs_of_all : (rows : List Row) → (first_of (codes "all-coils") rows ≡ None → ⊥)
    → input_texts rows ≡ unwrap_or (all_of (codes "coil") rows) [] ++ unwrap_or (all_of (codes "inputs") rows) []
inputs_of_all rows each = go (first_of (codes "all-coils") rows) each
  where
    go : (o : Option Text) → (o ≡ None → ⊥) → inputs_for (is_some o) rows ≡ unwrap_or (all_of (codes "coil") rows) [] ++ unwrap_or (all_of (codes "inputs") rows) []
    go None some = absurd (some refl)
    go (Some folder) some = refl

no_left : (xs ys : List Text) → xs ++ ys ≡ [] → xs ≡ []
no_left [] ys none = refl
no_left (x ∷ xs) ys none = cc

no_right : (xs ys : List Text) → xs ++ ys ≡ [] → ys ≡ []
no_right [] ys none = none
no_right (x ∷ xs) ys none = cc

-- No input is named.
pub none_named : (rows : List Row) → first_of (codes "inputs") rows ≡ None → first_of (codes "all-coils") rows ≡ None → input_texts rows ≡ []
none_named rows none one = inputs_of_one rows one ∙ no_values (codes "inputs") rows none

pub none_named_first : (rows : List Row) → first_of (codes "inputs") rows ≡ None → first_of (codes "coil") rows ≡ None → input_texts rows ≡ []
none_named_first rows none first = go (is_some (first_of (codes "all-coils") rows))
  where
    go : (b : Bool) → inputs_for b rows ≡ []
    go true = ap₂ (λ (xs ys : List Text). xs ++ ys) (no_values (codes "coil") rows first) (no_values (codes "inputs") rows none)
    go false = no_values (codes "inputs") rows none

-- An input is named.
pub some_named : (rows : List Row) → (first_of (codes "inputs") rows ≡ None → ⊥) → input_texts rows ≡ [] → ⊥
some_named rows some = go (is_some (first_of (codes "all-coils") rows))
  where
    go : (b : Bool) → inputs_for b rows ≡ [] → ⊥
    go true none = some (no_value (codes "inputs") rows (no_right _ _ none))
    go false none = some (no_value (codes "inputs") rows none)

pub some_named_first : (rows : List Row) → (first_of (codes "all-coils") rows ≡ None → ⊥) → (first_of (codes "coil") rows ≡ None → ⊥) → input_texts rows ≡ [] → ⊥
some_named_first rows each some none = some (no_value (codes "coil") rows (no_left _ _ (sym (inputs_of_all rows each) ∙ none)))

-- No inputs are listed.
pub lists_none : (rows : List Row) (all : Bool) → HasSwitch (codes "all-inputs") rows all → all ≡ false → input_texts rows ≡ [] → HasInputs rows false []
lists_none rows true flag named none = cc
lists_none rows false flag named none = record { flag = flag; named = none; either = λ (same : false ≡ true). refl }

pub lists_all : (rows : List Row) (all : Bool) → HasSwitch (codes "all-inputs") rows all → all ≡ true → HasInputs rows false [] → ⊥
lists_all rows true flag set h = h.flag flag
lists_all rows false flag set h = cc

-- Nothing is watched.
pub watches_none : (rows : List Row) (all : Bool) → HasSwitch (codes "watch-all") rows all → all ≡ false → first_of (codes "watch") rows ≡ None → HasWatched rows false []
watches_none rows true flag named none = cc
watches_none rows false flag named none = record { flag = flag; named = no_values (codes "watch") rows none; either = λ (same : false ≡ true). refl }

pub watches_all : (rows : List Row) (all : Bool) → HasSwitch (codes "watch-all") rows all → all ≡ true → HasWatched rows false [] → ⊥
watches_all rows true flag set h = h.flag flag
watches_all rows false flag set h = cc

-- ---- comparisons

-- The subcommand that compares makes no request.
compares_alone : (rows : List Row) → AsksNone (codes "diff") rows
compares_alone rows = by_subcommand (codes "diff") rows (apart (codes "diff") (codes "check") refl) (apart (codes "diff") (codes "causes") refl) (apart (codes "diff") (codes "show") refl)
    (apart (codes "diff") (codes "sim") refl) (apart (codes "diff") (codes "uses") refl) (apart (codes "diff") (codes "never") refl) (apart (codes "diff") (codes "reach") refl) (apart (codes "diff") (codes "import") refl) (apart (codes "diff") (codes "draw") refl) (apart (codes "diff") (codes "export") refl)

-- It asks for nothing where no comparison is named, of a coil or of all names.
pub no_comparison : (rows : List Row) → NamesNoDiff rows → NamesNoVerdicts rows → NamesNoDiffRuns rows → HasNoTask (codes "diff") rows
no_comparison rows none nothing no_runs (Perform line) h = compares_alone rows line.request h.0.0
no_comparison rows none nothing no_runs (PerformAll all) h = compares_alone rows all.line.request h.0.0
no_comparison rows none nothing no_runs (Compare r) h = none r h.1
no_comparison rows none nothing no_runs (Judge r) h = nothing r h.1
no_comparison rows none nothing no_runs (JudgeRuns r) h = no_runs r h.1
no_comparison rows none nothing no_runs (Explain names) h = apart (codes "diff") (codes "explain") refl h.0

-- A scan is named with its inputs.
pub no_named_of_inputs : (rows : List Row) → ((all : Bool) (names : List Text) → HasInputs rows all names → ⊥) → (s : NamedScan) → NamesScan rows s → ⊥
no_named_of_inputs rows none s h = none s.all_inputs (map string_bytes s.inputs.items) h.3

-- What is said beside a usage fault changes nothing about it.
pub usage_with : {P : Type 0} (e : WordFault) → P → UsageWhere (Unit {0}) e → UsageWhere P e
usage_with e p h = usage_weaker e (λ u. p) h
