-- Private: assignments that share a rung.
use Rattle.std.specs.List.{All}
use Rattle.std.specs.Global.{Global}
use Rattle.std.specs.Prelude.{Box, None, Some, true, ◌<◌, ◌≤◌, [], ◌∷◌, ◌≡◌, ℕ, ◌+◌, Bool, false, ◌||◌, if◌then◌else◌, List, length, zero, suc}
use Rattle.diagram_program.specs.declared.gates.Action.{Action}
use Rattle.diagram_program.specs.declared.cell.Cell.TheVariants.{Block, Coil}
use Rattle.diagram_program.specs.declared.mode.CoilMode.{CoilMode}
use Rattle.diagram_program.specs.declared.mode.CoilMode.TheVariants.{Store, Inverse, Set, Reset, Rising}
use Rattle.diagram_program.specs.Program.{Drawing, jump_of}
use Rattle.diagram_program.specs.Gates.{actions_of}
use Rattle.scan_signals.specs.Truth.{plain}
use Rattle.scan_cycle.specs.Cells.{Frame, Kept}
use Rattle.scan_cycle.specs.Rung.{Held, frame_of, link, second}
use Rattle.scan_cycle.specs.Programs.{diagram_of}
use Rattle.st_expression.specs.declared.expression.Operand.{Operand}
use Rattle.st_expression.specs.declared.expression.Expression.{Expression}
use Rattle.st_expression.specs.Value.{value}
use Rattle.st_statements.specs.declared.statement.StatementList.{StatementList}
use Rattle.st_statements.specs.declared.statement.StatementList.TheVariants.{Assign', End, Return', Select'}
use Rattle.st_statements.specs.Operands.{reads}
use Rattle.st_statements.specs.Run.{run, seen, value_in}
use Rattle.draw_power.specs.declared.helpers.Helper.{Helper}
use Rattle.draw_power.specs.Helpers.{AreHelpers, value_as}
use Rattle.draw_check.specs.Acted.{acted}
use Rattle.draw_check.specs.Meaning.{AreSame}
use Rattle.draw_check.specs.Steps.{Draws, HasPart, IsOther, Reaches}

-- The left link of a place is the value of an expression, or its inverse where it isn't on.
abbrev pub IsLink : Drawing → List Helper → (rung place : ℕ) → (on : Bool) → Expression → Type 0
IsLink p helpers rung place on e = (k : Kept) (now : ℕ) (f : Frame Bool) → AreHelpers helpers f → link plain (diagram_of p) k now rung f place ≡ value_as on (seen f) e

-- The second input of the block at a place is the value of an expression.
abbrev pub IsSecond : Drawing → List Helper → (rung place : ℕ) → Expression → Type 0
IsSecond p helpers rung place e = (k : Kept) (now : ℕ) (f : Frame Bool) → AreHelpers helpers f
    → second plain (diagram_of p) rung (link plain (diagram_of p) k now rung f) place ≡ value (seen f) e

-- From a rung that changes nothing evaluation goes to another one where the expression is on, or off where it is its inverse that counts, and
-- otherwise to the rung below.
abbrev pub Branches : Drawing → List Helper → (rung target : ℕ) → (on : Bool) → Expression → Type 0
Branches p helpers rung target on e = (now : ℕ) (g : Held) → AreHelpers helpers (frame_of g) → (b : Bool) → value_as on (seen (frame_of g)) e ≡ b
    → Reaches (diagram_of p) now rung g (if b then target else rung + 1) g

-- the same without a condition
abbrev pub Leaves : Drawing → (rung target : ℕ) → Type 0
Leaves p rung target = (now : ℕ) (g : Held) → Reaches (diagram_of p) now rung g target g

-- the coil that writes an expression: `( )`, or `(/)` where its inverse is drawn
abbrev pub coil_for : (on : Bool) → CoilMode
coil_for on = if on then Store else Inverse

-- Where the next so many statements are assignments, their expressions have in the state the values that they have in the frame.
unfoldable pub AreAlike : Frame Bool → Held → ℕ → StatementList → Type 0
AreAlike f h zero list = Unit {0}
AreAlike f h (suc n) (Assign' variable e p next) = (value (seen f) e ≡ value_in h e) × AreAlike f h n next
AreAlike f h (suc n) other = Unit {0}

-- Where the next so many statements are assignments, one of their expressions looks at the variable.
unfoldable pub are_reading : (variable n : ℕ) → StatementList → Bool
are_reading variable zero list = false
are_reading variable (suc n) (Assign' other e p next) = reads variable e || are_reading variable n next
are_reading variable (suc n) other = false

-- What these cells of a rung write is what the statements do before the rest of them.
abbrev pub Take : Drawing → (variables rung : ℕ) → List Helper → List Action → (list rest : StatementList) → Type 0
Take p variables rung helpers actions list rest =
    (now : ℕ) (k : Kept) (f : Frame Bool) → AreHelpers helpers f → (g h : Held) → AreSame p variables g h → AreAlike f h (length actions) list
    → (after : Held) × AreSame p variables (acted p now rung f (link plain (diagram_of p) k now rung f) actions g) after
    × (run p.decls.instances now list h ≡ run p.decls.instances now rest after)

-- The list begins with an assignment.
abbrev pub IsAssignment : ℕ → Expression → (next list : StatementList) → Type 0
IsAssignment variable e next list = (p : Box (Unit {0}) Global) × (list ≡ Assign' variable e p next)

-- The cell is the coil of the assignment that the list begins with. The expressions of so many assignments after it don't look at what it writes.
pub record IsCoil (p : Drawing) (variables rung : ℕ) (helpers : List Helper) (action : Action) (later : ℕ) (list next : StatementList) : Type 0 where
  pub on : Bool
  pub variable : ℕ
  pub expression : Expression
  pub begins : IsAssignment variable expression next list
  pub cell : action.cell ≡ Coil (coil_for on) variable None
  pub small : variable < variables
  pub link : IsLink p helpers rung action.place on expression
  pub unread : are_reading variable later next ≡ false

-- Evaluation from a rung on, up to another one, does what the statements do before the rest of them, where the helpers have their values.
abbrev pub Do : Drawing → ℕ → List Helper → (list rest : StatementList) → (j k : ℕ) → Type 0
Do p variables helpers list rest j k = (now : ℕ) (g h : Held) → AreSame p variables g h → AreHelpers helpers (frame_of g)
    → (last after : Held) × Reaches (diagram_of p) now j g k last × AreSame p variables last after
    × (run p.decls.instances now list h ≡ run p.decls.instances now rest after)

-- the coil that writes a constant where its link is ON
abbrev pub latch_for : (on : Bool) → CoilMode
latch_for on = if on then Set else Reset

-- The cell is the set or reset coil of the assignment that the list begins with.
pub record IsLatch (p : Drawing) (variables rung : ℕ) (helpers : List Helper) (condition : Expression) (action : Action) (list next : StatementList) : Type 0 where
  pub on : Bool
  pub variable : ℕ
  pub expression : Expression
  pub begins : IsAssignment variable expression next list
  pub constant : (env : Operand → Bool) → value env expression ≡ on
  pub cell : action.cell ≡ Coil (latch_for on) variable None
  pub small : variable < variables
  pub link : IsLink p helpers rung action.place true condition

-- These cells of a rung do what the statements do, where the condition is ON, and otherwise nothing. The statements don't return.
pub record Latch (p : Drawing) (variables rung : ℕ) (helpers : List Helper) (condition : Expression) (actions : List Action) (accepted : StatementList) : Type 0 where
  pub stays : (now : ℕ) (h : Held) → (run p.decls.instances now accepted h).has_returned ≡ false
  pub does : (now : ℕ) (k : Kept) (f : Frame Bool) → AreHelpers helpers f → (g h : Held) → AreSame p variables g h
      → AreSame p variables (acted p now rung f (link plain (diagram_of p) k now rung f) actions g)
      (if value (seen f) condition then (run p.decls.instances now accepted h).held else h)

-- The rung writes the helper, and nothing else.
pub record IsWritten (p : Drawing) (variables rung : ℕ) (helpers : List Helper) (new : Helper) : Type 0 where
  pub action : Action
  pub on : Bool
  pub jump : jump_of p rung ≡ None
  pub one : actions_of p rung ≡ action ∷ []
  pub cell : action.cell ≡ Coil (coil_for on) new.variable None
  pub large : variables ≤ new.variable
  pub declared : new.variable < length p.decls.vars
  pub others : All (IsOther new.variable) helpers
  pub part : HasPart variables new
  pub link : IsLink p helpers rung action.place on new.part.now

-- The rung is a coil `(P)`.
pub record IsTriggerRung (p : Drawing) (rung : ℕ) (helpers : List Helper) (output memory : ℕ) (clock : Expression) : Type 0 where
  pub action : Action
  pub jump : jump_of p rung ≡ None
  pub one : actions_of p rung ≡ action ∷ []
  pub cell : action.cell ≡ Coil Rising output (Some memory)
  pub link : IsLink p helpers rung action.place true clock

-- The rung is a block.
pub record IsCallRung (p : Drawing) (rung : ℕ) (helpers : List Helper) (instance : ℕ) (first second : Expression) : Type 0 where
  pub action : Action
  pub jump : jump_of p rung ≡ None
  pub one : actions_of p rung ≡ action ∷ []
  pub cell : action.cell ≡ Block instance
  pub link : IsLink p helpers rung action.place true first
  pub lower : IsSecond p helpers rung action.place second

-- The rungs from the first on do one arm of an IF and those from the target on the other, and both come to the same rung.
abbrev pub AreArms : Drawing → ℕ → (accepted otherwise : StatementList) → (first target end : ℕ) → Type 0
AreArms p variables accepted otherwise first target end =
    (behind : ℕ) × Draws p variables accepted first behind × Leaves p behind end × Draws p variables otherwise target end

-- The list begins with a RETURN.
abbrev pub IsReturn : (next list : StatementList) → Type 0
IsReturn next list = (p : Box (Unit {0}) Global) × (list ≡ Return' p next)

-- The list begins with an IF.
abbrev pub IsSelection : Expression → (accepted otherwise next list : StatementList) → Type 0
IsSelection e accepted otherwise next list = (p q r : Box (Unit {0}) Global) × (list ≡ Select' e p accepted q otherwise r next)

-- The rung is an IF with a RETURN alone.
pub record IsLeave (p : Drawing) (rung : ℕ) (helpers : List Helper) (condition : Expression) (accepted otherwise : StatementList) : Type 0 where
  pub behind : StatementList
  pub returns : IsReturn behind accepted
  pub empty : otherwise ≡ End
  pub branches : Branches p helpers rung p.rungs true condition
