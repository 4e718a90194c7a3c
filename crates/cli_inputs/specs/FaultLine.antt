-- The line of a fault: the code of the rule, and where it shows.
use Rattle.std.specs.Prelude.{◌++◌, ℕ, List, Option, None, Some, codes, decimal}
use Rattle.diagram_declarations.specs.declared.fault.VarRule.{VarRule}
use Rattle.diagram_declarations.specs.declared.fault.VarRule.TheVariants as var
use Rattle.diagram_reader.specs.declared.fault.GridFault.TheVariants as grid
use Rattle.text_reasons.specs.Sentences.{grid_number, var_number}
use Rattle.causes_query.specs.declared.fault.CauseFault.{CauseFault}
use Rattle.causes_query.specs.declared.fault.CauseFault.TheVariants as cause
use Rattle.io_text.specs.declared.fault.ReadFault.TheVariants as read
use Rattle.search_differences.specs.declared.side.Side.{Side}
use Rattle.search_differences.specs.declared.side.Side.TheVariants as side
use Rattle.text_state.specs.declared.fault.StateFault.TheVariants as state
use Rattle.text_trace.specs.declared.fault.SimFault.TheVariants as sim
use Rattle.cli_inputs.specs.declared.fault.TextKind.{TextKind}
use Rattle.cli_inputs.specs.declared.fault.TextKind.TheVariants as kind
use Rattle.cli_inputs.specs.declared.fault.ToolFault.{ToolFault}
use Rattle.cli_inputs.specs.declared.fault.ToolFault.TheVariants as fault

-- the reasons why there is no list of causes, C1 to C7; C8, of one over several scans, and C9, of what is assumed, stand below
abbrev pub cause_number : CauseFault → ℕ
cause_number cause.MomentBack = 1
cause_number cause.NotACoil = 2
cause_number cause.TooManyFree = 3
cause_number cause.NotAnInput = 4
cause_number cause.RepeatedInput = 5
cause_number cause.AfterOutOfRange = 6
cause_number cause.Memory = 7

abbrev pub kind_word : TextKind → List ℕ
kind_word kind.Program = codes "program"
kind_word kind.State = codes "state"
kind_word kind.Stimulus = codes "stimulus"
kind_word kind.Trace = codes "trace"
kind_word kind.Hal = codes "hal"

-- a line that ends with a number
abbrev pub numbered : List ℕ → ℕ → List ℕ
numbered text number = text ++ (decimal number ++ codes "\n")

-- A rule of the declarations and its line; out of memory has no line of the text.
abbrev pub var_words : VarRule → ℕ → List ℕ
var_words var.Memory line = codes "V9\n"
var_words rule line = codes "V" ++ (decimal (var_number rule) ++ numbered (codes " line ") line)

-- By the letter: V, A and G the rules of a program text, C those of a question, and X what else stops a request. Records are counted from 1,
-- a bad one is X2; X1 is a text that can't be read, X5 one that is too long, X6 a writer that failed, and X7, the rest, out of memory.
abbrev pub fault_words : ToolFault → List ℕ
fault_words (fault.Grid (grid.Vars f)) = var_words f.rule f.line
fault_words (fault.Grid (grid.Grid r rung line)) =
    codes "G" ++ (decimal (grid_number r) ++ (codes " rung " ++ (decimal rung ++ numbered (codes " line ") line)))
fault_words (fault.Title f) = numbered (codes "A1 line ") f.line
fault_words (fault.Cause f) = numbered (codes "C") (cause_number f)
fault_words fault.NoScans = codes "C8\n"
fault_words (fault.Read k read.Read) = codes "X1 " ++ (kind_word k ++ codes "\n")
fault_words (fault.Read k read.TooLong) = codes "X5 " ++ (kind_word k ++ codes "\n")
fault_words (fault.State (state.BadRow row)) = numbered (codes "X2 state row ") row
fault_words (fault.Word number) = numbered (codes "X3 word ") number
fault_words (fault.Watched number) = numbered (codes "X3 watch ") number
fault_words (fault.Assumed number) = numbered (codes "X2 assume ") number
fault_words (fault.NoInput number column) = codes "X3 assume " ++ (decimal number ++ numbered (codes " column ") column)
fault_words fault.NeverTrue = codes "C9\n"
fault_words fault.Both = codes "X3 both\n"
fault_words (fault.Sim (sim.BadRow row)) = numbered (codes "X2 stimulus row ") row
fault_words (fault.Sim (sim.UnknownName row)) = numbered (codes "X3 row ") row
fault_words (fault.Sim (sim.MomentBack row)) = numbered (codes "X4 row ") row
fault_words (fault.Sim (sim.TooLong row)) = numbered (codes "X5 row ") row
fault_words (fault.Sim sim.Write) = codes "X6\n"
fault_words fault.Write = codes "X6\n"
fault_words fault.Usage = codes "usage\n"
fault_words other = codes "X7\n"

-- A line begins so; where there are two programs, it tells of which the fault is.
abbrev pub lead : Option Side → List ℕ
lead None = codes "fault "
lead (Some side.Old) = codes "fault old "
lead (Some side.New) = codes "fault new "

abbrev pub line_by : Option Side → ToolFault → List ℕ
line_by side f = lead side ++ fault_words f

-- the line of a fault where there is one program
abbrev pub fault_line : ToolFault → List ℕ
fault_line = line_by None
