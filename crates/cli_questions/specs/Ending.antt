-- What a request for a list asks, and how the list ends: all its rows are written, or a fault stops it.
use Rattle.std.specs.Prelude.{◌≡◌, ◌⊎◌, ◌++◌, ◌∷◌, ℕ, List, Bool, true, false, Option, None, Some, IfSome, codes, decimal, [], map, string_bytes, unwrap_or}
use Rattle.diagram_program.specs.Program.{Drawing}
use Rattle.scan_cycle.specs.Standing.{Standing}
use Rattle.causes_query.specs.Causes.{Question}
use Rattle.io_text.specs.Log.{PutsAll, PutsPrefix, WriteLog}
use Rattle.cli_inputs.specs.declared.fault.ToolFault.{ToolFault}
use Rattle.cli_inputs.specs.declared.fault.ToolFault.TheVariants as fault
use Rattle.cli_arguments.specs.declared.request.ListRequest.{ListRequest}
use Rattle.cli_questions.specs.declared.counting.ListCounts.{ListCounts}
use Rattle.cli_questions.specs.declared.counting.ListCounts.TheVariants as counts
use Rattle.cli_inputs.specs.Setting.{Given, HasSettingFault, IsSet}
use Rattle.cli_inputs.specs.Variables.{AreListed, variable_of}
use Rattle.cli_inputs.specs.Reports.{HasWordFault, IsReported, Logs}

-- `rows R`
abbrev pub held_line : ℕ → List ℕ
held_line rows = codes "rows " ++ (decimal rows ++ codes "\n")

-- the line that says that two programs are equivalent, where they are
abbrev pub equivalence_line : Bool → List ℕ
equivalence_line true = codes "equivalent\n"
equivalence_line false = []

-- ` assumed A`
abbrev pub assumed_end : ℕ → List ℕ
assumed_end assumed = codes " assumed " ++ (decimal assumed ++ codes "\n")

-- The rows, and what else is counted: `looks L`, `causes C`, `unsettled U`, `differences D`, and at the end how many expressions are assumed.
abbrev pub counts_line : ListCounts → List ℕ
counts_line (counts.Rows rows) = held_line rows
counts_line (counts.Causes s) = codes "rows " ++ (decimal s.rows ++ (codes " looks " ++ (decimal s.looks ++ codes "\n")))
counts_line (counts.Groups s) = codes "rows " ++ (decimal s.rows ++ (codes " causes " ++ (decimal s.causes ++ codes "\n")))
counts_line (counts.AssumedRows rows assumed) = codes "rows " ++ (decimal rows ++ assumed_end assumed)
counts_line (counts.AssumedCauses s assumed) = codes "rows " ++ (decimal s.rows ++ (codes " looks " ++ (decimal s.looks ++ assumed_end assumed)))
counts_line (counts.AssumedGroups s assumed) = codes "rows " ++ (decimal s.rows ++ (codes " causes " ++ (decimal s.causes ++ assumed_end assumed)))
counts_line (counts.Possible rows unsettled) = codes "rows " ++ (decimal rows ++ (codes " unsettled " ++ (decimal unsettled ++ codes "\n")))
counts_line (counts.Differences rows differences) = codes "rows " ++ (decimal rows ++ (codes " differences " ++ (decimal differences ++ codes "\n")))
counts_line (counts.AssumedDifferences rows differences assumed) =
    codes "rows " ++ (decimal rows ++ (codes " differences " ++ (decimal differences ++ assumed_end assumed)))
counts_line (counts.Verdicts same differs unsettled is_equivalent) =
    codes "same " ++ (decimal same ++ (codes " differs " ++ (decimal differs ++ (codes " unsettled " ++ (decimal unsettled ++ (codes "\n" ++ equivalence_line is_equivalent))))))
counts_line (counts.AssumedVerdicts same differs unsettled is_equivalent assumed) =
    codes "same " ++ (decimal same ++ (codes " differs " ++ (decimal differs ++ (codes " unsettled " ++ (decimal unsettled
    ++ (codes " assumed " ++ (decimal assumed ++ (codes "\n" ++ equivalence_line is_equivalent))))))))
counts_line (counts.PossibleGroups rows causes unsettled) =
    codes "rows " ++ (decimal rows ++ (codes " causes " ++ (decimal causes ++ (codes " unsettled " ++ (decimal unsettled ++ codes "\n")))))
counts_line (counts.AssumedPossible rows unsettled assumed) = codes "rows " ++ (decimal rows ++ (codes " unsettled " ++ (decimal unsettled ++ assumed_end assumed)))
counts_line (counts.AssumedPossibleGroups rows causes unsettled assumed) =
    codes "rows " ++ (decimal rows ++ (codes " causes " ++ (decimal causes ++ (codes " unsettled " ++ (decimal unsettled ++ assumed_end assumed)))))

-- A line of counts, where it isn't left out.
abbrev pub unless_quiet : Bool → List ℕ → List ℕ
unless_quiet true line = []
unless_quiet false line = line

-- which text a list may be, and what is counted of it where it is written whole
abbrev pub Listing : Type 1
Listing = List ℕ → Option ListCounts → Type 0

-- a form of list: what it may be for each question
abbrev pub Form : Type 1
Form = Question → Listing

-- a form in which each question that isn't refused has one text
abbrev pub Lists : {F : Type 0} → (Question → Option F) → (Question → List ℕ) → (Question → ListCounts) → Form
Lists refused text_of counts_of q text c = (refused q ≡ None) × (text ≡ text_of q) × IfSome c (λ n. n ≡ counts_of q)

-- a list of what is asked, in a form
abbrev pub ListsAsked : (Question → Type 0) → Form → Listing
ListsAsked Asked Is text c = (q : Question) × Asked q × Is q text c

-- The text was written, and then the line of its counts: whole, or as far as `Written` says.
pub record Ends (Is : Listing) (quiet : Bool) (out out' : WriteLog) (Written : List ℕ → Type 0) : Type 0 where
  pub text : List ℕ
  pub counts : ListCounts
  pub is : Is text (Some counts)
  pub put : PutsAll out out' text
  pub counted : Written (unless_quiet quiet (counts_line counts))

-- Status 1: `out` failed at the text, or `err` at its counts.
abbrev pub BreaksOff : Given → Listing → Bool → Logs → Logs → Type 0
BreaksOff g Is quiet old new =
    ((text : List ℕ) × Is text None × PutsPrefix old.out new.out text × IsReported g old.err new.err fault.Write)
    ⊎ Ends Is quiet old.out new.out (PutsPrefix old.err new.err)

-- A fault of these names.
abbrev pub HasNameFault : Given → List (List ℕ) → ToolFault → Type 0
HasNameFault g names f = (p : Drawing) × (s : Standing) × IsSet g p s × HasWordFault p.decls names f

-- Faults are looked for in this order: in the program text, in the state text, in the names, in what is asked.
abbrev pub HasAskedFault : Given → List (List ℕ) → (Question → Type 0) → (Question → ToolFault → Type 0) → ToolFault → Type 0
HasAskedFault g names Asked Refused f = HasSettingFault g f ⊎ (HasNameFault g names f ⊎ ((q : Question) × Asked q × Refused q f))

-- ---- what is asked of one state

-- The texts describe the program and the state, and the name is that of the coil's variable. Without a moment the scan is at the stored one.
pub record IsOnCoil (g : Given) (coil : List ℕ) (moment : Option ℕ) (q : Question) : Type 0 where
  pub set : IsSet g q.program q.state
  pub at : q.now ≡ unwrap_or moment q.state.moment
  pub on : variable_of q.program.decls coil ≡ Some q.coil

-- The other names are those of the listed inputs, where not all inputs are listed.
abbrev pub IsNamed : Given → List ℕ → Option ℕ → Bool → List (List ℕ) → Question → Type 0
IsNamed g coil moment all inputs q = IsOnCoil g coil moment q × AreListed q.program.decls all inputs q.listed

abbrev pub IsAsked : Given → ListRequest → Question → Type 0
IsAsked g r = IsNamed g (string_bytes r.coil) r.moment r.all_inputs (map string_bytes r.inputs.items)

-- the names of a request: COIL is word 1, the first INPUT word 2
abbrev pub names_of : ListRequest → List (List ℕ)
names_of r = string_bytes r.coil ∷ map string_bytes r.inputs.items

-- How a list in a form ends that a request asks for, and which faults it may have.
abbrev pub CountsAsked : Form → Given → ListRequest → WriteLog → WriteLog → (List ℕ → Type 0) → Type 0
CountsAsked Is g r = Ends (ListsAsked (IsAsked g r) Is) r.quiet

abbrev pub BreaksAsked : Form → Given → ListRequest → Logs → Logs → Type 0
BreaksAsked Is g r = BreaksOff g (ListsAsked (IsAsked g r) Is) r.quiet

abbrev pub HasRequestFault : (Question → ToolFault → Type 0) → Given → ListRequest → ToolFault → Type 0
HasRequestFault Refused g r = HasAskedFault g (names_of r) (IsAsked g r) Refused
