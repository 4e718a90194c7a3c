-- Private: how far statements have done what a rung does.
use Rattle.std.specs.Prelude.{◌≡◌, ℕ, ◌+◌, ◌<◌, ◌≤◌, All, Bool, false, if◌then◌else◌, List, length, slice_index_or, None}
use Rattle.diagram_declarations.specs.declared.kind.BlockKind.TheVariants.{Ton}
use Rattle.diagram_program.specs.declared.cell.Cell.TheVariants.{Coil}
use Rattle.diagram_program.specs.declared.gates.Action.{Action}
use Rattle.diagram_program.specs.Program.{Drawing, memories_of}
use Rattle.scan_signals.specs.Blocks.{new_block}
use Rattle.scan_signals.specs.Truth.{plain}
use Rattle.diagram_program.specs.declared.cell.Operand.{Operand}
use Rattle.scan_cycle.specs.Cells.{Frame, Kept, operand_value}
use Rattle.scan_cycle.specs.Rung.{Held, frame_of, link, second}
use Rattle.scan_cycle.specs.Programs.{diagram_of}
use Rattle.st_expression.specs.declared.expression.Expression.{Expression}
use Rattle.st_expression.specs.declared.expression.Operand as st
use Rattle.st_expression.specs.Value.{value}
use Rattle.st_statements.specs.declared.statement.StatementList.{StatementList}
use Rattle.st_statements.specs.Run.{run, seen, value_in}
use Rattle.draw_check.specs.Acted.{acted_from}
use Rattle.draw_check.specs.Groups.{latch_for}
use Rattle.export_power.specs.declared.known.Known.{Known}
use Rattle.export_power.specs.Sight.{Sees, is_called}
use Rattle.export_rungs.specs.Forms.{IsAssignment}
use Rattle.export_rungs.specs.Rungs.{AreAt}

-- the first variable that may stand for something within a rung
abbrev pub base_of : Drawing → (count : ℕ) → ℕ
base_of d count = length d.decls.vars + memories_of d + count

-- A rung began with g. Statements that have done what these cells of it do left h, and these variables stand for something.
pub record IsBetween (d : Drawing) (variables : ℕ) (flags : List Bool) (now rung : ℕ) (known : List Known) (done : List Action) (g h : Held) : Type 0 where
  pub at : AreAt d variables flags (acted_from d now rung g done g) h
  pub sees : Sees d rung done known g.kept now (frame_of g) (frame_of h)
  pub rests : (i : ℕ) → is_called i done ≡ false → slice_index_or h.kept.blocks i (new_block Ton) ≡ slice_index_or g.kept.blocks i (new_block Ton)
  pub high : All (λ (x : Known). base_of d (length flags) ≤ x.variable) known

-- The statements before the rest come from where these cells are done to where those are.
abbrev pub Go : Drawing → (variables count rung : ℕ) → List Known → (done next : List Action) → (list rest : StatementList) → Type 0
Go d variables count rung known done next list rest = (now : ℕ) (g h : Held) (flags : List Bool) → length flags ≡ count
    → IsBetween d variables flags now rung known done g h
    → (after : Held) × IsBetween d variables flags now rung known next g after × (run d.decls.instances now list h ≡ run d.decls.instances now rest after)

-- From the start of the rung, the statements before the rest come to where these cells are done and these variables stand for something.
abbrev pub Comes : Drawing → (variables count rung : ℕ) → List Known → (done : List Action) → (list rest : StatementList) → Type 0
Comes d variables count rung known done list rest = (now : ℕ) (g h : Held) (flags : List Bool) → length flags ≡ count → AreAt d variables flags g h
    → (after : Held) × IsBetween d variables flags now rung known done g after × (run d.decls.instances now list h ≡ run d.decls.instances now rest after)

-- Where these cells are done, the expression has the value of the left link of a place.
abbrev pub Shows : Drawing → (rung : ℕ) → (done : List Action) → List Known → (place : ℕ) → Expression → Type 0
Shows d rung done known place e = (k : Kept) (now : ℕ) (f s : Frame Bool) → Sees d rung done known k now f s
    → link plain (diagram_of d) k now rung f place ≡ value (seen s) e

-- the same of the second input of the block there
abbrev pub ShowsSecond : Drawing → (rung : ℕ) → (done : List Action) → List Known → (place : ℕ) → Expression → Type 0
ShowsSecond d rung done known place e = (k : Kept) (now : ℕ) (f s : Frame Bool) → Sees d rung done known k now f s
    → second plain (diagram_of d) rung (link plain (diagram_of d) k now rung f) place ≡ value (seen s) e

-- The assignments of an IF come from where the cells `done` are done to where those of `next` are. The IF began where the cells `from` were done,
-- with the state `first`; where its condition is off, nothing changes.
pub record Latches (d : Drawing) (variables count rung : ℕ) (known : List Known) (from done next : List Action) (condition : Expression) (accepted : StatementList) : Type 0 where
  pub stays : (now : ℕ) (h : Held) → (run d.decls.instances now accepted h).has_returned ≡ false
  pub goes : (now : ℕ) (g first h : Held) (flags : List Bool) → length flags ≡ count
      → IsBetween d variables flags now rung known from g first → IsBetween d variables flags now rung known done g h
      → IsBetween d variables flags now rung known next g (if value_in first condition then (run d.decls.instances now accepted h).held else h)

-- The variable that has a memory of the drawing, among those of the statements.
pub record IsMemory (d : Drawing) (memory variable : ℕ) : Type 0 where
  pub few : memory < memories_of d
  pub is : variable ≡ length d.decls.vars + memory

-- Where these cells are done, the expression has the value that an operand had at the start of the rung.
abbrev pub Begins : Drawing → (rung : ℕ) → (done : List Action) → List Known → Operand → Expression → Type 0
Begins d rung done known operand e = (k : Kept) (now : ℕ) (f s : Frame Bool) → Sees d rung done known k now f s
    → value (seen s) e ≡ operand_value plain f operand

-- The list begins with an assignment that does what a set or a reset coil does under a condition.
pub record IsLatch (d : Drawing) (rung : ℕ) (known : List Known) (from : List Action) (a : Action) (condition : Expression) (accepted more : StatementList) : Type 0 where
  pub on : Bool
  pub variable : ℕ
  pub expression : Expression
  pub cell : a.cell ≡ Coil (latch_for on) variable None
  pub small : variable < length d.decls.vars
  pub begins : IsAssignment variable expression more accepted
  pub constant : (env : st.Operand → Bool) → value env expression ≡ on
  pub shows : Shows d rung from known a.place condition
