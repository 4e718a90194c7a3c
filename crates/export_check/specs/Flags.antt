-- Private: the variables of statements that say whether a jump was taken.
use Rattle.std.specs.Prelude.{◌≡◌, ℕ, ◌+◌, ◌<◌, ◌≤◌, Bool, true, false, not, List, length, slice_get, slice_index_or}
use Rattle.diagram_declarations.specs.declared.decls.Instance.{Instance}
use Rattle.scan_cycle.specs.Rung.{Held}
use Rattle.scan_cycle.specs.Cells.{Frame}
use Rattle.st_expression.specs.declared.expression.Operand.{Operand}
use Rattle.st_expression.specs.declared.expression.Operand.TheVariants.{Variable}
use Rattle.st_expression.specs.declared.expression.Expression.{Expression}
use Rattle.st_expression.specs.Value.{value}
use Rattle.st_statements.specs.declared.statement.StatementList.{StatementList}
use Rattle.st_statements.specs.Operands.{reads}
use Rattle.st_statements.specs.Run.{run, seen, value_in}
use Rattle.export_check.specs.declared.jumps.Jump.{Jump}
use Rattle.export_check.specs.Jumps.{is_over, passes_there}

-- The values of variables from this one on are those of the flags.
pub record AreShown (first : ℕ) (jumps : List Jump) (flags values : List Bool) : Type 0 where
  pub many : length flags ≡ length jumps
  pub each : (i : ℕ) → i < length flags → slice_index_or values (first + i) false ≡ slice_index_or flags i false

-- The operand is the flag of a jump that passes over the rung.
abbrev pub IsFlag : (first : ℕ) → List Jump → (rung : ℕ) → Operand → Type 0
IsFlag first jumps rung operand = (number : ℕ) × (operand ≡ Variable (first + number)) × (passes_there rung (slice_get jumps number) ≡ true)

-- The expression is on just where a variable that it looks at is on, and each of these is the flag of a jump that passes over the rung.
pub record IsAnyOf (first : ℕ) (jumps : List Jump) (rung : ℕ) (e : Expression) : Type 0 where
  pub over : (f : Frame Bool) (flags : List Bool) → AreShown first jumps flags f.values → value (seen f) e ≡ true → is_over jumps flags rung ≡ true
  pub on : (f : Frame Bool) (variable : ℕ) → reads variable e ≡ true → slice_index_or f.values variable false ≡ true → value (seen f) e ≡ true

-- The expression looks at the flag of each jump that passes over the rung, from this number on.
abbrev pub ReadsFrom : (number first : ℕ) → List Jump → (rung : ℕ) → Expression → Type 0
ReadsFrom number first jumps rung e = (i : ℕ) → number ≤ i → passes_there rung (slice_get jumps i) ≡ true → reads (first + i) e ≡ true

-- The expression is on just where no jump whose flag is on passes over the rung.
abbrev pub IsGuard : (first : ℕ) → List Jump → (rung : ℕ) → Expression → Type 0
IsGuard first jumps rung e = (h : Held) (flags : List Bool) → AreShown first jumps flags h.values → value_in h e ≡ not (is_over jumps flags rung)

-- So many flags are off.
abbrev pub AreOff : (first number : ℕ) → Held → Type 0
AreOff first number h = (i : ℕ) → i < number → slice_index_or h.values (first + i) false ≡ false

-- All of them are off, and nothing else has changed.
pub record AreReset (first count : ℕ) (h after : Held) : Type 0 where
  pub long : length after.values ≡ length h.values
  pub above : (i : ℕ) → i < first → slice_index_or after.values i false ≡ slice_index_or h.values i false
  pub off : AreOff first count after
  pub kept : after.kept ≡ h.kept

-- The statements before the rest switch the flags off, where the first ones are off.
abbrev pub Resets : (first number count : ℕ) → (list rest : StatementList) → Type 0
Resets first number count list rest = (instances : List Instance) (now : ℕ) (h : Held) → first + count ≤ length h.values → AreOff first number h
    → (after : Held) × AreReset first count h after × (run instances now list h ≡ run instances now rest after)
