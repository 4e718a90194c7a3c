-- Private: how far rungs are a drawing of statements.
use Rattle.std.specs.Prelude.{◌≡◌, ℕ, ◌<◌, true, if◌then◌else◌, List}
use Rattle.std.specs.List.{All}
use Rattle.diagram_program.specs.Program.{Drawing}
use Rattle.scan_cycle.specs.Cells.{Diagram}
use Rattle.scan_cycle.specs.Rung.{Held, evaluated, frame_of}
use Rattle.scan_cycle.specs.Scan.{next_rung}
use Rattle.scan_cycle.specs.Programs.{diagram_of}
use Rattle.draw_power.specs.declared.helpers.Helper.{Helper}
use Rattle.draw_power.specs.Helpers.{AreHelpers}
use Rattle.st_statements.specs.declared.statement.StatementList.{StatementList}
use Rattle.st_statements.specs.Operands.{is_within}
use Rattle.st_statements.specs.Run.{run}
use Rattle.draw_check.specs.Meaning.{AreSame}

-- Evaluation comes from a rung in a state to another rung in another state.
pub data Reaches (d : Diagram) (now : ℕ) : ℕ → Held → ℕ → Held → Type 0 where
  here : (j : ℕ) (g : Held) → Reaches d now j g j g
  further : (j k : ℕ) (g last : Held) → j < d.rungs → Reaches d now (next_rung d now j g) (evaluated d now j g) k last → Reaches d now j g k last

-- It comes to a state that has the same as one of the statements.
abbrev pub Arrives : Drawing → (variables now j : ℕ) → Held → (k : ℕ) → Held → Type 0
Arrives d variables now j g k h = (last : Held) × Reaches (diagram_of d) now j g k last × AreSame d variables last h

-- The rungs from j on, up to k, do what the statements do. Where these return, evaluation goes behind the last rung.
abbrev pub Draws : Drawing → ℕ → StatementList → (j k : ℕ) → Type 0
Draws d variables list j k = (now : ℕ) (g h : Held) → AreSame d variables g h
    → let r = run d.decls.instances now list h in Arrives d variables now j g (if r.has_returned then d.rungs else k) r.held

-- The rungs from j on, up to k, write the helpers, and change nothing else.
abbrev pub Prepares : Drawing → ℕ → List Helper → (j k : ℕ) → Type 0
Prepares d variables helpers j k = (now : ℕ) (g h : Held) → AreSame d variables g h
    → (last : Held) × Reaches (diagram_of d) now j g k last × AreSame d variables last h × AreHelpers helpers (frame_of last)

-- The part of a helper looks at variables of the statements alone, which no helper is.
abbrev pub HasPart : (variables : ℕ) → Helper → Type 0
HasPart variables x = is_within variables x.part.now ≡ true

abbrev pub IsOther : (variable : ℕ) → Helper → Type 0
IsOther variable x = x.variable ≡ variable → ⊥

abbrev pub ArePrepared : Drawing → ℕ → List Helper → (j k : ℕ) → Type 0
ArePrepared d variables helpers j k = Prepares d variables helpers j k × All (HasPart variables) helpers
