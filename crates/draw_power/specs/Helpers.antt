-- Variables that stand for parts of an expression.
use Rattle.std.specs.Prelude.{◌≡◌, Bool, false, not, if◌then◌else◌, All, List, slice_index_or}
use Rattle.scan_cycle.specs.Cells.{Frame}
use Rattle.st_expression.specs.declared.expression.Operand.{Operand}
use Rattle.st_expression.specs.declared.expression.Expression.{Expression}
use Rattle.st_expression.specs.Value.{value}
use Rattle.st_statements.specs.Run.{seen}
use Rattle.draw_power.specs.declared.helpers.Helper.{Helper}

-- the value of an expression, or its inverse where it isn't `on`
abbrev pub value_as : Bool → (Operand → Bool) → Expression → Bool
value_as on env e = if on then value env e else not (value env e)

-- In this frame the helper's variable has the value of the part that it stands for.
abbrev pub IsHelper : Frame Bool → Helper → Type 0
IsHelper f x = slice_index_or f.values x.variable false ≡ value (seen f) x.part.now

-- In this frame each of them has.
abbrev pub AreHelpers : List Helper → Frame Bool → Type 0
AreHelpers helpers f = All (IsHelper f) helpers
