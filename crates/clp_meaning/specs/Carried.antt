-- A program has what a project has: each rung in its place in the scan, and each element in its row and column with its meaning.
use Rattle.std.specs.Prelude.{◌≡◌, ◌↔◌, ◌⊎◌, All, ℕ, ◌+◌, ◌*◌, ◌<◌, not, true, false, IsTrue, List, [], ◌∷◌, length, slice_get, Some, None, option_map}
use Rattle.std.specs.List.{list_all}
use Rattle.diagram_declarations.specs.Decls.{Declared, is_input_at}
use Rattle.diagram_declarations.specs.declared.decls.Address.{Address}
use Rattle.diagram_declarations.specs.declared.decls.Instance.{Instance}
use Rattle.diagram_program.specs.declared.geometry.TheConstants.{ROWS, COLUMNS}
use Rattle.diagram_program.specs.declared.mode.Mode.{Mode}
use Rattle.diagram_program.specs.declared.mode.Mode.TheVariants as mode
use Rattle.diagram_program.specs.declared.mode.CoilMode.{CoilMode}
use Rattle.diagram_program.specs.declared.cell.Operand.{Operand}
use Rattle.diagram_program.specs.declared.cell.Operand.TheVariants as operand
use Rattle.diagram_program.specs.declared.cell.Cell.{Cell}
use Rattle.diagram_program.specs.declared.cell.Cell.TheVariants as cell
use Rattle.diagram_program.specs.Program.{Drawing, site_at, feeds, has_coil}
use Rattle.clp_project.specs.declared.element.Element.{Element}
use Rattle.clp_project.specs.declared.order.Placed.{Placed}
use Rattle.clp_project.specs.declared.project.Project.{Project}
use Rattle.clp_project.specs.declared.reading.ReadingOptions.{ReadingOptions}
use Rattle.clp_project.specs.declared.table.Expression.{Expression}
use Rattle.clp_project.specs.Tables.{writes_number}
use Rattle.clp_meaning.specs.declared.meaning.BlockSort.TheVariants as sort
use Rattle.clp_meaning.specs.declared.meaning.BlockRef.{BlockRef}
use Rattle.clp_meaning.specs.declared.meaning.Meaning.{Meaning}
use Rattle.clp_meaning.specs.declared.meaning.Meaning.TheVariants as meaning
use Rattle.clp_meaning.specs.declared.meaning.ClpOperand.{ClpOperand}
use Rattle.clp_meaning.specs.declared.meaning.ClpOperand.TheVariants as source
use Rattle.clp_meaning.specs.Meanings.{IsTimed, source_of, table_of}
use Rattle.clp_meaning.specs.Sheets.{IsFed, IsIdle, Reached, ReadsLate, Stands, element_at, meaning_at}

-- ---- variables and blocks

abbrev pub IsDeclaredAt : Declared → Address → ℕ → Type 0
IsDeclaredAt decls address var = option_map (λ v. v.address) (slice_get decls.vars var) ≡ Some (Some address)

-- the variable that is declared at an address of this letter, with this one number
abbrev pub IsVar : Declared → ℕ → ℕ → ℕ → Type 0
IsVar decls letter number var = IsDeclaredAt decls (record { letter = letter; first = number; second = None }) var

-- The input that stands for what is opened at a place: %I (73) with the number of its rung, and those of its row and its column, each
-- counted from 1. As each place has one of its own, and elements have addresses of one number, it may have any value.
abbrev pub opened_at : ℕ → ℕ → ℕ → Address
opened_at k r c = record { letter = 73; first = k + 1; second = Some (100 * (r + 1) + (c + 1)) }

-- No coil writes the variable, and it is no input: as all variables begin as OFF, it is always OFF.
abbrev pub IsNever : Drawing → ℕ → Type 0
IsNever d var = (has_coil var d ≡ false) × (is_input_at (slice_get d.decls.vars var) ≡ false)

-- It is none of the blocks.
abbrev pub IsNoneOf : List BlockRef → BlockRef → Type 0
IsNoneOf blocks block = All (λ other. ¬ (other ≡ block)) blocks

-- %I, %Q and %B are the addresses %I (73), %Q (81) and %M (77); instance i stands for the block i, and a block that none stands
-- for is always OFF.
abbrev pub IsOperand : Drawing → List BlockRef → ClpOperand → ℕ → Operand → Type 0
IsOperand d blocks source.Input number (operand.Var var) = IsVar d.decls 73 number var
IsOperand d blocks source.Output number (operand.Var var) = IsVar d.decls 81 number var
IsOperand d blocks source.Memory number (operand.Var var) = IsVar d.decls 77 number var
IsOperand d blocks (source.Done s) number (operand.Var var) = IsNoneOf blocks (record { sort = s; number = number }) × IsNever d var
IsOperand d blocks (source.Done s) number (operand.Output inst) = slice_get blocks inst ≡ Some (record { sort = s; number = number })
IsOperand d blocks source number operand = ⊥

-- A coil writes %Q or %B.
abbrev pub IsWritten : Drawing → ClpOperand → ℕ → ℕ → Type 0
IsWritten d source.Output number var = IsVar d.decls 81 number var
IsWritten d source.Memory number var = IsVar d.decls 77 number var
IsWritten d source number var = ⊥

-- no block is twice among them
abbrev pub AreApart : List BlockRef → Type 0
AreApart [] = Unit {0}
AreApart (b ∷ bs) = IsNoneOf bs b × AreApart bs

-- The instance has the kind and the preset of the block.
abbrev pub IsInstance : Project → BlockRef → Instance → Type 0
IsInstance p b i = IsTimed b.sort (slice_get (table_of p b.sort) b.number) (record { kind = i.kind; preset = i.preset })

-- Each instance has the kind and the preset of the block that it stands for.
abbrev pub AreInstances : Project → List BlockRef → List Instance → Type 0
AreInstances p [] [] = Unit {0}
AreInstances p (b ∷ bs) (i ∷ is) = IsInstance p b i × AreInstances p bs is
AreInstances p blocks instances = ⊥

-- ---- cells

-- A rung with this number, of the same section, is in this place in the scan.
abbrev pub IsTarget : List Placed → ℕ → ℕ → ℕ → Type 0
IsTarget rungs section number target = (x : Placed) × (slice_get rungs target ≡ Some x) × (x.rung.number ≡ number) × (x.section ≡ section)

abbrev pub IsContactOn : Drawing → List BlockRef → Mode → ClpOperand → ℕ → Cell → Type 0
IsContactOn d blocks m source number (cell.Contact n operand memory) = (n ≡ m) × IsOperand d blocks source number operand
IsContactOn d blocks m source number other = ⊥

abbrev pub IsCoilOn : Drawing → CoilMode → ClpOperand → ℕ → Cell → Type 0
IsCoilOn d m source number (cell.Coil n var memory) = (n ≡ m) × IsWritten d source number var
IsCoilOn d m source number other = ⊥

abbrev pub IsJumpTo : List Placed → ℕ → ℕ → Cell → Type 0
IsJumpTo rungs section number (cell.Jump target) = IsTarget rungs section number target
IsJumpTo rungs section number other = ⊥

abbrev pub IsBlockOf : List BlockRef → BlockRef → Cell → Type 0
IsBlockOf blocks block (cell.Block inst) = slice_get blocks inst ≡ Some block
IsBlockOf blocks block other = ⊥

abbrev pub IsContactAt : Drawing → Mode → Address → Cell → Type 0
IsContactAt d m address (cell.Contact n (operand.Var var) memory) = (n ≡ m) × IsDeclaredAt d.decls address var
IsContactAt d m address other = ⊥

-- What stands at the place of an element with this meaning; the input with the address stands for what is opened there.
unfoldable pub IsCell : Drawing → List Placed → List BlockRef → ℕ → Address → Element → Meaning → Cell → Type 0
IsCell d rungs blocks section address e meaning.Blank at = at ≡ cell.Empty
IsCell d rungs blocks section address e meaning.Wire at = at ≡ cell.Wire
IsCell d rungs blocks section address e (meaning.Contact m) at = IsContactOn d blocks m (source_of e.class) e.number at
IsCell d rungs blocks section address e (meaning.Opened m) at = IsContactAt d m address at
IsCell d rungs blocks section address e (meaning.Coil m) at = IsCoilOn d m (source_of e.class) e.number at
IsCell d rungs blocks section address e meaning.Jump at = IsJumpTo rungs section e.number at
IsCell d rungs blocks section address e (meaning.Block s) at = IsBlockOf blocks (record { sort = s; number = e.number }) at
IsCell d rungs blocks section address e meaning.Off at = IsContactOn d blocks mode.Plain (source.Done sort.Timer) e.number at
IsCell d rungs blocks section address e meaning.Operate at = at ≡ cell.Empty
IsCell d rungs blocks section address e meaning.Other at = ⊥

-- No power comes to the element, it does nothing then, and nothing is at its place.
unfoldable pub IsLeftOut : ReadingOptions → List Element → ℕ → ℕ → Cell → Type 0
IsLeftOut reading es r c at = ¬ (Reached reading es c r) × IsIdle (meaning_at reading es r c) × (at ≡ cell.Empty)

-- The cell is fed from the same rows.
abbrev pub IsFedAlike : ReadingOptions → Drawing → ℕ → List Element → ℕ → ℕ → Type 0
IsFedAlike reading d k es r c = (q : ℕ) → q < ROWS → IsTrue (feeds d k r c q) ↔ IsFed reading es r c q

-- A cell is fed as its element is, which stands where it means the same in a program and reads no block before it in its rung.
pub record IsAlike (reading : ReadingOptions) (d : Drawing) (k : ℕ) (es : List Element) (r c : ℕ) : Type 0 where
  pub fed : IsFedAlike reading d k es r c
  pub stands : Stands reading es r c
  pub early : ¬ (ReadsLate reading es r c)

-- A place of rung k has what the project has there.
pub record IsPlaceCarried (reading : ReadingOptions) (d : Drawing) (rungs : List Placed) (blocks : List BlockRef) (k : ℕ) (x : Placed) (r c : ℕ) : Type 0 where
  pub same : IsCell d rungs blocks x.section (opened_at k r c) (element_at x.rung.elements r c) (meaning_at reading x.rung.elements r c) (site_at d k r c).cell
      ⊎ IsLeftOut reading x.rung.elements r c (site_at d k r c).cell
  pub alike : ¬ ((site_at d k r c).cell ≡ cell.Empty) → IsAlike reading d k x.rung.elements r c

abbrev pub IsRungCarried : ReadingOptions → Drawing → List Placed → List BlockRef → ℕ → Placed → Type 0
IsRungCarried reading d rungs blocks k x = (r c : ℕ) → r < ROWS → c < COLUMNS → IsPlaceCarried reading d rungs blocks k x r c

-- Each rung of the scan is the rung with the same number in the program.
abbrev pub AreCarried : ReadingOptions → Drawing → List Placed → List BlockRef → Type 0
AreCarried reading d rungs blocks = (k : ℕ) → k < length rungs → (x : Placed) → slice_get rungs k ≡ Some x → IsRungCarried reading d rungs blocks k x

-- An operate (60), which is left out, writes a number and so no bit.
unfoldable pub IsUnseen : List Expression → Element → Type 0
IsUnseen expressions e = e.kind ≡ 60 → IsTrue (writes_number expressions e.number)

unfoldable pub AreUnseen : List Expression → Placed → Type 0
AreUnseen expressions x = All (IsUnseen expressions) x.rung.elements

-- A program is a project carried over, with these blocks: instance i stands for block i, each for another one; all variables
-- begin as OFF; the rungs are those of the scan; and what the operates write, no rung reads.
pub record IsCarriedBy (reading : ReadingOptions) (p : Project) (blocks : List BlockRef) (d : Drawing) : Type 0 where
  pub apart : AreApart blocks
  pub instances : AreInstances p blocks d.decls.instances
  pub off : list_all (λ v. not v.initial) d.decls.vars ≡ true
  pub unseen : All (AreUnseen p.expressions.items) p.rungs.items
  pub count : d.rungs ≡ length p.rungs.items
  pub rungs : AreCarried reading d p.rungs.items blocks

-- A program is a project carried over: its instances stand for some of the project's blocks.
abbrev pub IsCarriedOver : ReadingOptions → Project → Drawing → Type 0
IsCarriedOver reading p d = (blocks : List BlockRef) × IsCarriedBy reading p blocks d
