-- Private: the sites of a program with the numbers that they have in a program with more in it.
use Rattle.std.specs.Prelude.{ℕ, ◌+◌, ◌<◌, ◌^◌, List, Option, Some, None, option_map, slice_index_or}
use Rattle.diagram_program.specs.declared.cell.Cell.{Cell}
use Rattle.diagram_program.specs.declared.cell.Cell.TheVariants as cell
use Rattle.diagram_program.specs.declared.cell.Operand.{Operand}
use Rattle.diagram_program.specs.declared.cell.Operand.TheVariants as operand
use Rattle.diagram_program.specs.declared.site.Site.{Site}
use Rattle.diff_beside.specs.declared.moving.Moving.{Moving}

-- The number there of each variable, how many instances, memories and rungs stand there before those of the program, and the rung to which
-- its returns lead, where they don't lead past the last one.
pub record Shift : Type 0 where
  pub vars : List ℕ
  pub instances : ℕ
  pub memories : ℕ
  pub rungs : ℕ
  pub past : Option ℕ

abbrev pub shift_of : Moving → Shift
shift_of m = record { vars = m.vars.now; instances = m.instances; memories = m.memories; rungs = m.rungs; past = m.past }

abbrev pub moved_operand : Shift → Operand → Operand
moved_operand s (operand.Var var) = operand.Var (slice_index_or s.vars var 0)
moved_operand s (operand.Output inst) = operand.Output (s.instances + inst)

abbrev pub cell_of_return : Option ℕ → Cell
cell_of_return (Some target) = cell.Jump target
cell_of_return None = cell.Return

abbrev pub moved : Shift → Cell → Cell
moved s cell.Empty = cell.Empty
moved s cell.Wire = cell.Wire
moved s (cell.Contact mode operand memory) = cell.Contact mode (moved_operand s operand) (option_map (λ n. s.memories + n) memory)
moved s (cell.Coil mode var memory) = cell.Coil mode (slice_index_or s.vars var 0) (option_map (λ n. s.memories + n) memory)
moved s (cell.Block inst) = cell.Block (s.instances + inst)
moved s (cell.Lower inst linked) = cell.Lower (s.instances + inst) linked
moved s (cell.Jump target) = cell.Jump (s.rungs + target)
moved s cell.Return = cell_of_return s.past

abbrev pub moved_site : Shift → Site → Site
moved_site s site = record site { cell = moved s site.cell }

-- ---- numbers that stay within 64 bits

abbrev pub IsSmallMemory : Option ℕ → Type 0
IsSmallMemory (Some n) = n < 2 ^ 32
IsSmallMemory None = Unit {0}

abbrev pub IsSmallOperand : Operand → Type 0
IsSmallOperand (operand.Var var) = Unit {0}
IsSmallOperand (operand.Output inst) = inst < 2 ^ 32

abbrev pub IsSmall : Cell → Type 0
IsSmall (cell.Contact mode operand memory) = IsSmallOperand operand × IsSmallMemory memory
IsSmall (cell.Coil mode var memory) = IsSmallMemory memory
IsSmall (cell.Block inst) = inst < 2 ^ 32
IsSmall (cell.Lower inst linked) = inst < 2 ^ 32
IsSmall (cell.Jump target) = target < 2 ^ 32
IsSmall other = Unit {0}
