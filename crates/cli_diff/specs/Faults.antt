-- Which faults a comparison has, and of which program each is.
use Rattle.std.specs.Prelude.{◌≡◌, ◌⊎◌, ◌∷◌, ℕ, List, Option, None, Some, map, option_map, string_bytes}
use Rattle.std.specs.Option.{option_or}
use Rattle.diagram_program.specs.Program.{Drawing}
use Rattle.diagram_reader.specs.Titled.{HasProgram}
use Rattle.causes_query.specs.Causes.{Question}
use Rattle.causes_query.specs.Refusal.{refusal}
use Rattle.causes_query.specs.declared.fault.CauseFault.{CauseFault}
use Rattle.causes_query.specs.declared.fault.CauseFault.TheVariants as cause
use Rattle.scan_held.specs.HeldRefusal.{held_refusal}
use Rattle.scan_held.specs.declared.fault.HeldFault.{HeldFault}
use Rattle.scan_held.specs.declared.fault.HeldFault.TheVariants as held
use Rattle.scan_held.specs.declared.scans.Scans.{Scans}
use Rattle.search_differences.specs.declared.side.Side.{Side}
use Rattle.search_differences.specs.declared.side.Side.TheVariants.{Old, New}
use Rattle.cli_arguments.specs.declared.request.DiffForm.{DiffForm}
use Rattle.cli_arguments.specs.declared.request.DiffForm.TheVariants.{Rows, Progress, Held, Groups}
use Rattle.cli_arguments.specs.declared.request.DiffRequest.{DiffRequest}
use Rattle.cli_inputs.specs.declared.fault.ToolFault.{ToolFault}
use Rattle.cli_inputs.specs.Reports.{HasWordFault}
use Rattle.cli_inputs.specs.Setting.{Given, HasSettingFault}
use Rattle.cli_inputs.specs.declared.fault.ToolFault.TheVariants as fault
use Rattle.diff_causes.specs.declared.fault.DifferenceFault.{DifferenceFault}
use Rattle.diff_causes.specs.declared.fault.DifferenceFault.TheVariants as difference
use Rattle.diff_held.specs.declared.fault.HeldDifferenceFault.{HeldDifferenceFault}
use Rattle.diff_held.specs.declared.fault.HeldDifferenceFault.TheVariants as held_difference
use Rattle.cli_diff.specs.declared.sided.SidedFault.{SidedFault}
use Rattle.cli_diff.specs.Asking.{AreAsked}

-- the texts of the program that a fault is of
abbrev pub given_of : Option Side → Given → Given → Given
given_of None g h = g
given_of (Some Old) g h = g
given_of (Some New) g h = h

-- the names of a comparison: COIL is word 1, the first INPUT word 2
abbrev pub words_of : DiffRequest → List (List ℕ)
words_of r = string_bytes r.coil ∷ map string_bytes r.inputs.items

-- A fault of the program's text or of its state's, or of the words in the program that its text describes.
abbrev pub HasOwnFault : Given → List (List ℕ) → ToolFault → Type 0
HasOwnFault g words f = HasSettingFault g f ⊎ ((p : Drawing) × HasProgram g.aliases g.program p × HasWordFault p.decls words f)

-- A fault of the words in one of the programs.
abbrev pub HasWordFaultOf : Option Side → Drawing → Drawing → List (List ℕ) → ToolFault → Type 0
HasWordFaultOf None p q words f = ⊥
HasWordFaultOf (Some Old) p q words f = HasWordFault p.decls words f
HasWordFaultOf (Some New) p q words f = HasWordFault q.decls words f

abbrev pub HasOwnFaultOf : Option Side → Given → Given → List (List ℕ) → ToolFault → Type 0
HasOwnFaultOf None g h words f = ⊥
HasOwnFaultOf (Some Old) g h words f = HasOwnFault g words f
HasOwnFaultOf (Some New) g h words f = HasOwnFault h words f

-- a rule of one scan, as a fault
abbrev pub cause_fault : CauseFault → ToolFault
cause_fault f = fault.Cause f

-- a rule of several scans, as a fault
abbrev pub held_fault : HeldFault → ToolFault
held_fault (held.Question f) = fault.Cause f
held_fault held.NoScans = fault.NoScans

-- so many scans, each this time after the one before it
abbrev pub scans_of : ℕ → ℕ → Scans
scans_of count every = record { count = count; every = every }

-- the first rule that is broken by a question with the number to end at, where there is one
abbrev pub bound_refusal : Option ℕ → Question → Option CauseFault
bound_refusal (Some last) q = refusal q (Some last)
bound_refusal None q = None

-- the first rule that the rows of a question break, which begin after a number and end at another
abbrev pub rows_refusal : Option ℕ → Option ℕ → Question → Option CauseFault
rows_refusal after upto q = option_or (bound_refusal upto q) (refusal q after)

-- the first rule that the question to the old program breaks
abbrev pub old_refusal : DiffForm → Question → Option ToolFault
old_refusal (Rows after upto) q = option_map cause_fault (rows_refusal after upto q)
old_refusal (Progress after upto) q = option_map cause_fault (rows_refusal after upto q)
old_refusal (Held count every) q = option_map held_fault (held_refusal q (scans_of count every))
old_refusal (Groups g) q = option_map cause_fault (refusal q None)

-- the first rule that the question to the new program breaks; the number to end at is looked at in the old one
abbrev pub new_refusal : DiffForm → Question → Option ToolFault
new_refusal (Rows after upto) q = option_map cause_fault (refusal q after)
new_refusal (Progress after upto) q = option_map cause_fault (refusal q after)
new_refusal (Held count every) q = option_map held_fault (held_refusal q (scans_of count every))
new_refusal (Groups g) q = option_map cause_fault (refusal q None)

-- This is the rule that is broken first; being out of memory has no reason in what is asked.
abbrev pub IsFirstFault : Option ToolFault → ToolFault → Type 0
IsFirstFault first f = (f ≡ fault.Cause cause.Memory) ⊎ (first ≡ Some f)

-- What is asked of one program is refused; of the new one, where it isn't of the old one.
abbrev pub IsRefusedOf : DiffForm → Question → Question → Option Side → ToolFault → Type 0
IsRefusedOf form old new None f = ⊥
IsRefusedOf form old new (Some Old) f = IsFirstFault (old_refusal form old) f
IsRefusedOf form old new (Some New) f = (old_refusal form old ≡ None) × IsFirstFault (new_refusal form new) f

-- A fault is looked for in the texts and the words, and then in what is asked.
abbrev pub HasDiffFault : Given → Given → DiffRequest → Option Side → ToolFault → Type 0
HasDiffFault g h r side f = HasOwnFaultOf side g h (words_of r) f
    ⊎ ((old new : Question) × AreAsked g h r old new × IsRefusedOf r.form old new side f)

-- the fault that a refusal is
abbrev pub refused : DifferenceFault → SidedFault
refused (difference.Old f) = record { side = Some Old; fault = fault.Cause f }
refused (difference.New f) = record { side = Some New; fault = fault.Cause f }

abbrev pub held_refused : HeldDifferenceFault → SidedFault
held_refused (held_difference.Old f) = record { side = Some Old; fault = held_fault f }
held_refused (held_difference.New f) = record { side = Some New; fault = held_fault f }
