-- What statements do (IEC 61131-3:2013, Structured Text): they are run one after the other, and each sees what those before it left.
use Rattle.std.specs.Prelude.{ℕ, Bool, true, false, not, ◌&&◌, if◌then◌else◌, List, map, option_map, slice_get, slice_index_or, slice_set, unwrap_or}
use Rattle.diagram_declarations.specs.declared.decls.Instance.{Instance}
use Rattle.diagram_declarations.specs.declared.kind.BlockKind.{BlockKind}
use Rattle.diagram_declarations.specs.declared.kind.BlockKind.TheVariants.{Ton}
use Rattle.scan_signals.specs.Blocks.{new_block, step}
use Rattle.scan_cycle.specs.Cells.{Frame}
use Rattle.scan_cycle.specs.Rung.{Held, frame_of, held}
use Rattle.st_expression.specs.declared.expression.Operand.{Operand}
use Rattle.st_expression.specs.declared.expression.Operand.TheVariants.{Variable, Output}
use Rattle.st_expression.specs.declared.expression.Expression.{Expression}
use Rattle.st_expression.specs.Value.{value}
use Rattle.st_statements.specs.declared.statement.StatementList.{StatementList}
use Rattle.st_statements.specs.declared.statement.StatementList.TheVariants.{End, Assign', Trigger', Call', Select', Return'}

-- what an operand has: the value of its variable, or the Q of its instance
abbrev pub seen : Frame Bool → Operand → Bool
seen f (Variable number) = slice_index_or f.values number false
seen f (Output number) = slice_index_or f.ends number false

-- the value that an expression has in a state
abbrev pub value_in : Held → Expression → Bool
value_in h e = value (seen (frame_of h)) e

-- What a run leaves, and whether a RETURN has ended it.
pub record Ran : Type 0 where
  pub held : Held
  pub has_returned : Bool

abbrev pub ran : Bool → Held → Ran
ran has_returned h = record { held = h; has_returned = has_returned }

abbrev pub assigned : ℕ → Bool → Held → Held
assigned variable x h = held (slice_set h.values variable x) h.kept.memories h.kept.blocks

-- Q := CLK AND NOT M; M := CLK; with the variable as Q and the memory as M.
abbrev pub triggered : (output memory : ℕ) → Bool → Held → Held
triggered output memory clock h =
    held (slice_set h.values output (clock && not (slice_index_or h.kept.memories memory false))) (slice_set h.kept.memories memory clock) h.kept.blocks

-- The kind and the preset of an instance. One past the last is a TON with preset 0, and no statement names it.
abbrev pub kind_in : List Instance → ℕ → BlockKind
kind_in instances i = unwrap_or (option_map (λ x. x.kind) (slice_get instances i)) Ton

abbrev pub preset_in : List Instance → ℕ → ℕ
preset_in instances i = unwrap_or (option_map (λ x. x.preset) (slice_get instances i)) 0

-- The block makes its step, at the moment `now`.
abbrev pub called : List Instance → (now i : ℕ) → (first second : Bool) → Held → Held
called instances now i first second h =
    let stored = step (kind_in instances i) (preset_in instances i) (slice_index_or h.kept.blocks i (new_block Ton)) first second now in
    held h.values h.kept.memories (slice_set h.kept.blocks i stored)

-- What a list of statements leaves at a moment.
unfoldable pub run : List Instance → ℕ → StatementList → Held → Ran
run instances now End h = ran false h
run instances now (Assign' variable e p next) h = run instances now next (assigned variable (value_in h e) h)
run instances now (Trigger' output memory e p next) h = run instances now next (triggered output memory (value_in h e) h)
run instances now (Call' i x y p next) h = run instances now next (called instances now i (value_in h x) (value_in h y) h)
run instances now (Select' e p accepted q otherwise r next) h =
    let arm = if value_in h e then run instances now accepted h else run instances now otherwise h in
    if arm.has_returned then arm else run instances now next arm.held
run instances now (Return' p next) h = ran true h
