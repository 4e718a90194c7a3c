-- What is said of a fault: its line, and where it is explained its rule in words and, for a program text, the lines where it shows.
use Rattle.std.specs.Prelude.{◌++◌, ◌==◌, if◌then◌else◌, ℕ, Bool, true, false, List, Option, Some, None, codes}
use Rattle.causes_query.specs.declared.fault.CauseFault.{CauseFault}
use Rattle.causes_query.specs.declared.fault.CauseFault.TheVariants as cause
use Rattle.diagram_reader.specs.declared.fault.GridFault.TheVariants.{Grid}
use Rattle.diagram_reader.specs.Columns.{IsColumnOf}
use Rattle.text_reasons.specs.Reasons.{reason_text}
use Rattle.search_differences.specs.declared.side.Side.{Side}
use Rattle.text_state.specs.declared.fault.StateFault.TheVariants as state
use Rattle.io_text.specs.declared.fault.ReadFault.TheVariants as read
use Rattle.text_trace.specs.declared.fault.SimFault.TheVariants as sim
use Rattle.cli_inputs.specs.declared.fault.ToolFault.{ToolFault}
use Rattle.cli_inputs.specs.declared.fault.ToolFault.TheVariants as fault
use Rattle.cli_inputs.specs.FaultLine.{line_by}

-- why there is no list of causes, or no scan to show
abbrev pub cause_sentence : CauseFault → List ℕ
cause_sentence cause.MomentBack = codes "C1: the moment is before the one that the state stores"
cause_sentence cause.NotACoil = codes "C2: no coil writes this variable"
cause_sentence cause.TooManyFree = codes "C3: too many inputs are listed"
cause_sentence cause.NotAnInput = codes "C4: a listed variable isn't an input"
cause_sentence cause.RepeatedInput = codes "C5: an input is listed twice"
cause_sentence cause.AfterOutOfRange = codes "C6: the listed inputs have no such number"
cause_sentence cause.Memory = codes "C7: out of memory"

-- of a record of a stimulus, of which the header is record 1
abbrev pub bad_row_sentence : ℕ → List ℕ
bad_row_sentence row =
    if row == 1 then codes "X2: the header isn't the word moment and then names of inputs, none of them twice"
    else codes "X2: the record isn't a moment in ms with a 0 or 1 for each name of the header, which is record 1"

-- the sentence of a fault that shows in no program text
abbrev pub sentence : ToolFault → List ℕ
sentence (fault.Title f) = codes "A1: this alias is the name or the alias of another declaration"
sentence (fault.Cause f) = cause_sentence f
sentence fault.NoScans = codes "C8: there are no such scans: none, too many, or one past the last moment"
sentence (fault.Read kind read.Read) = codes "X1: the file can't be read"
sentence (fault.Read kind read.TooLong) = codes "X5: the file is too long"
sentence (fault.Read kind read.Memory) = codes "X7: out of memory"
sentence (fault.State (state.BadRow row)) = codes "X2: the record is none of a state of this program; records are counted from 1"
sentence (fault.State state.Memory) = codes "X7: out of memory"
sentence (fault.Word number) = codes "X3: the word names no variable; COIL is word 1, and the first INPUT the next one"
sentence (fault.Watched number) = codes "X3: the name is that of no variable and no instance; names that are watched are counted from 1"
sentence (fault.Assumed number) =
    codes "X2: it is no expression of names of inputs, NOT, AND, OR, XOR, =, <> and parentheses; the expressions of --assumed, then those of --assume, are counted from 1"
sentence (fault.NoInput number column) =
    codes "X3: the word names no input of this program; the expressions of --assumed, then those of --assume, are counted from 1, and so are the columns of each"
sentence fault.NeverTrue = codes "C9: no combination makes all that is assumed true"
sentence fault.Both = codes "X3: the name of --both is that of no variable and of no block"
-- the records of a simulation are counted from 1, the header included
sentence (fault.Sim (sim.BadRow row)) = bad_row_sentence row
sentence (fault.Sim (sim.UnknownName row)) = codes "X3: a name of the header isn't an input of this program"
sentence (fault.Sim (sim.MomentBack row)) = codes "X4: the moment is before that of the record above it, or of the state; the header is record 1"
sentence (fault.Sim (sim.TooLong row)) =
    codes "X5: too many records or scans up to this record, of which the header is record 1; parts after one another by --save and --state, or a longer --every, will do"
sentence (fault.Sim sim.Write) = codes "X6: a write failed"
sentence (fault.Sim sim.Memory) = codes "X7: out of memory"
sentence fault.Write = codes "X6: a write failed"
sentence fault.Memory = codes "X7: out of memory"
sentence other = codes "usage: the words are not those of a request"

-- The column, where one is marked, is one in which the program text breaks the rule of the fault.
abbrev pub IsMarked : List ℕ → ToolFault → Option ℕ → Type 0
IsMarked text f None = Unit {0}
IsMarked text (fault.Grid (Grid r rung line)) (Some column) = IsColumnOf text r rung line column
IsMarked text other (Some column) = ⊥

-- A fault of the program text shows there, with marks under the column; of the others the sentence is all.
abbrev pub explained : List ℕ → ToolFault → Option ℕ → List ℕ
explained text (fault.Grid f) column = reason_text text f column
explained text other column = sentence other ++ codes "\n"

-- The line of the fault, and its explanation where that is asked for.
abbrev pub report_by : Option Side → Bool → List ℕ → ToolFault → Option ℕ → List ℕ
report_by side true text f column = line_by side f ++ explained text f column
report_by side false text f column = line_by side f

-- the same where there is one program
abbrev pub report_of : Bool → List ℕ → ToolFault → Option ℕ → List ℕ
report_of = report_by None
