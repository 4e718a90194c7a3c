-- Private: the statement that a list begins with, and the parts of an expression.
use Rattle.std.specs.Prelude.{◌≡◌, ℕ, Box, Some}
use Rattle.std.specs.Global.{Global}
use Rattle.diagram_program.specs.declared.cell.Cell.{Cell}
use Rattle.diagram_program.specs.declared.cell.Cell.TheVariants.{Contact}
use Rattle.diagram_program.specs.declared.cell.Operand as diagram
use Rattle.diagram_program.specs.declared.mode.Mode.{Mode}
use Rattle.st_expression.specs.declared.expression.Expression.{Expression}
use Rattle.st_expression.specs.declared.expression.Expression.TheVariants as tree
use Rattle.st_expression.specs.declared.expression.Operand.TheVariants.{Variable}
use Rattle.st_statements.specs.declared.statement.StatementList.{StatementList}
use Rattle.st_statements.specs.declared.statement.StatementList.TheVariants.{Assign', Call', End, Return', Select'}

-- the memory that a part is in
abbrev pub Memory : Type 0
Memory = Box (Unit {0}) Global

abbrev pub IsAssignment : ℕ → Expression → (next list : StatementList) → Type 0
IsAssignment variable e next list = (p : Memory) × (list ≡ Assign' variable e p next)

abbrev pub IsCalled : ℕ → (first second : Expression) → (next list : StatementList) → Type 0
IsCalled i first second next list = (p : Memory) × (list ≡ Call' i first second p next)

-- an IF without ELSE
abbrev pub IsSelection : Expression → (accepted next list : StatementList) → Type 0
IsSelection e accepted next list = (p q r : Memory) × (list ≡ Select' e p accepted q End r next)

abbrev pub IsReturn : StatementList → Type 0
IsReturn list = (p : Memory) × (next : StatementList) × (list ≡ Return' p next)

abbrev pub IsInverse : (a e : Expression) → Type 0
IsInverse a e = (p : Memory) × (e ≡ tree.Not' p a)

abbrev pub IsBoth : (a b e : Expression) → Type 0
IsBoth a b e = (p q : Memory) × (e ≡ tree.And' p a q b)

abbrev pub IsVariable : ℕ → Expression → Type 0
IsVariable variable e = e ≡ tree.Operand (Variable variable)

-- The cell is an edge contact.
abbrev pub IsEdge : diagram.Operand → (memory : ℕ) → Cell → Type 0
IsEdge operand memory c = (mode : Mode) × (c ≡ Contact mode operand (Some memory))

-- The list begins with an IF with a RETURN alone.
abbrev pub IsLeave : Expression → (next list : StatementList) → Type 0
IsLeave e next list = (accepted : StatementList) × IsReturn accepted × IsSelection e accepted next list
