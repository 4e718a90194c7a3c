-- Private: statements that do what a rung does.
use Rattle.std.specs.Prelude.{◌≡◌, ℕ, ◌==◌, Bool, true, false, if◌then◌else◌, List, length, slice_set, Option, Some, None}
use Rattle.diagram_program.specs.Program.{Drawing, jump_of}
use Rattle.scan_cycle.specs.Cells.{place_at}
use Rattle.scan_cycle.specs.Rung.{Held, evaluated, link_at}
use Rattle.scan_cycle.specs.Programs.{diagram_of}
use Rattle.st_statements.specs.declared.statement.StatementList.{StatementList}
use Rattle.st_statements.specs.Run.{ran, run}
use Rattle.export_rungs.specs.Matched.{AreFlagged, AreMatched}

-- Both hold.
pub record AreAt (d : Drawing) (variables : ℕ) (flags : List Bool) (g h : Held) : Type 0 where
  pub matched : AreMatched d variables g h
  pub flagged : AreFlagged d flags h

-- The jump or return of a rung is taken.
abbrev pub is_taken : Drawing → (now rung : ℕ) → Held → ℕ × ℕ × ℕ → Bool
is_taken d now rung g jump = link_at (diagram_of d) now rung g (place_at jump.0 jump.1)

-- Without a jump, a rung leaves the flags as they are; a jump sets its own; a return ends the run where it is taken.
abbrev pub Leaves : Drawing → (variables now rung number : ℕ) → (flags : List Bool) → (list rest : StatementList) → (g h after : Held)
    → Option (ℕ × ℕ × ℕ) → Type 0
Leaves d variables now rung number flags list rest g h after None =
    AreAt d variables flags (evaluated (diagram_of d) now rung g) after × (run d.decls.instances now list h ≡ run d.decls.instances now rest after)
Leaves d variables now rung number flags list rest g h after (Some jump) =
    elim (jump.2 == d.rungs) [
      | true ↦
          AreAt d variables flags (evaluated (diagram_of d) now rung g) after
          × (run d.decls.instances now list h ≡ (if is_taken d now rung g jump then ran true after else run d.decls.instances now rest after))
      | false ↦
          AreAt d variables (slice_set flags number (is_taken d now rung g jump)) (evaluated (diagram_of d) now rung g) after
          × (run d.decls.instances now list h ≡ run d.decls.instances now rest after)
    ]

-- The statements before the rest do what the rung does, and its jump, which has this number among the jumps, sets its flag.
abbrev pub Does : Drawing → (variables count rung number : ℕ) → (list rest : StatementList) → Type 0
Does d variables count rung number list rest = (now : ℕ) (g h : Held) (flags : List Bool) → length flags ≡ count
    → AreAt d variables flags g h → (after : Held) × Leaves d variables now rung number flags list rest g h after (jump_of d rung)
