-- What is said of a fault, and how a request ends that has one.
use Rattle.std.specs.Prelude.{◌≡◌, ◌⊎◌, ◌∷◌, ℕ, List, Bool, false, Option, None, Some, []}
use Rattle.diagram_declarations.specs.Decls.{Declared}
use Rattle.causes_query.specs.declared.fault.CauseFault.{CauseFault}
use Rattle.causes_query.specs.declared.fault.CauseFault.TheVariants as cause
use Rattle.search_differences.specs.declared.side.Side.{Side}
use Rattle.io_text.specs.Log.{PutsAll, PutsPrefix, WriteLog}
use Rattle.cli_inputs.specs.declared.fault.ToolFault.{ToolFault}
use Rattle.cli_inputs.specs.declared.fault.ToolFault.TheVariants as fault
use Rattle.cli_inputs.specs.Explained.{IsMarked, report_by}
use Rattle.cli_inputs.specs.Setting.{Given}
use Rattle.cli_inputs.specs.Variables.{IsUnknownWord}

-- what was written on each of the three writers
pub record Logs : Type 0 where
  pub out : WriteLog
  pub save : WriteLog
  pub err : WriteLog

abbrev pub logs : WriteLog → WriteLog → WriteLog → Logs
logs out save err = record { out = out; save = save; err = err }

-- What is said of a fault was written, or a prefix of it before the writer failed. A column that is marked is one of the fault's.
abbrev pub IsReportedBy : Option Side → Given → WriteLog → WriteLog → ToolFault → Type 0
IsReportedBy side g old new f =
    (column : Option ℕ) × IsMarked g.program f column
    × (PutsAll old new (report_by side g.why g.program f column) ⊎ PutsPrefix old new (report_by side g.why g.program f column))

-- the same where there is one program
abbrev pub IsReported : Given → WriteLog → WriteLog → ToolFault → Type 0
IsReported = IsReportedBy None

-- no text was read
abbrev pub unread : Bool → Given
unread why = record { program = []; state = None; stimulus = None; trace = None; why = why; aliases = false }

-- Status 1, by a fault that the texts and arguments have: nothing was written but what is said of it on `err`.
pub record Refuses (g : Given) (Has : ToolFault → Type 0) (old new : Logs) : Type 0 where
  pub reason : ToolFault
  pub has : Has reason
  pub unwritten : new.out ≡ old.out
  pub unsaved : new.save ≡ old.save
  pub reported : IsReported g old.err new.err reason

-- The first word that names no variable, or being out of memory.
abbrev pub HasWordFault : Declared → List (List ℕ) → ToolFault → Type 0
HasWordFault decls words (fault.Word number) = IsUnknownWord decls words number
HasWordFault decls words fault.Memory = Unit {0}
HasWordFault decls words other = ⊥

-- This is the rule that is broken first; being out of memory has no reason in what is asked.
abbrev pub HasCauseFault : Option CauseFault → ToolFault → Type 0
HasCauseFault first (fault.Cause f) = (f ≡ cause.Memory) ⊎ (first ≡ Some f)
HasCauseFault first other = ⊥

-- the names in the order of a list's words: the coil, where there is one, and the inputs
abbrev pub names_in : Option (List ℕ) → List (List ℕ) → List (List ℕ)
names_in None inputs = inputs
names_in (Some coil) inputs = coil ∷ inputs
