-- Private: what expressions stand for in a rung.
use Rattle.std.specs.Prelude.{◌≡◌, ℕ, Bool, List, [], length}
use Rattle.diagram_program.specs.declared.gates.Action.{Action}
use Rattle.diagram_program.specs.Program.{Drawing}
use Rattle.diagram_program.specs.declared.cell.Cell.{Cell}
use Rattle.scan_signals.specs.Truth.{plain}
use Rattle.scan_cycle.specs.Cells.{closed, memory_of}
use Rattle.scan_cycle.specs.Rung.{Held, frame_of}
use Rattle.st_expression.specs.declared.expression.Expression.{Expression}
use Rattle.st_statements.specs.Run.{value_in}
use Rattle.export_power.specs.declared.known.Known.{Known}
use Rattle.export_power.specs.declared.known.Meaning.{Meaning}
use Rattle.export_power.specs.Sight.{meant}
use Rattle.export_rungs.specs.Steps.{IsBetween}

-- Where these cells are done, the expression has the value of what it stands for.
abbrev pub Means : Drawing → (variables count rung : ℕ) → List Known → (done : List Action) → Expression → Meaning → Type 0
Means d variables count rung known done e meaning = (now : ℕ) (g h : Held) (flags : List Bool) → length flags ≡ count
    → IsBetween d variables flags now rung known done g h → value_in h e ≡ meant d rung g.kept now (frame_of g) meaning

-- The expression says whether the cell, an edge contact, is closed.
abbrev pub IsEdgeOf : Drawing → (variables count rung : ℕ) → List Known → Expression → Cell → Type 0
IsEdgeOf d variables count rung known e c = (now : ℕ) (g h : Held) (flags : List Bool) → length flags ≡ count
    → IsBetween d variables flags now rung known [] g h → value_in h e ≡ closed plain (frame_of g) (memory_of g.kept c) c

-- a variable that is another one
abbrev pub IsApart : (variable : ℕ) → Known → Type 0
IsApart variable x = x.variable ≡ variable → ⊥

-- The variable stands for what the expression has the value of.
abbrev pub IsMeaning : Drawing → (variables count rung : ℕ) → List Known → (done : List Action) → (variable : ℕ) → Expression → Known → Type 0
IsMeaning d variables count rung known done variable e x = (x.variable ≡ variable) × Means d variables count rung known done e x.meaning
