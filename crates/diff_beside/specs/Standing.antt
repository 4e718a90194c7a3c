-- Private: the numbers of two programs that stand side by side in one.
use Rattle.std.specs.Prelude.{ℕ, ◌==◌, List, Some, None, length, if◌then◌else◌}
use Rattle.diagram_program.specs.Program.{Drawing, memories_of}
use Rattle.diff_beside.specs.Moving.{Shift}

-- of what OLD has: the numbers that it has there
abbrev pub before : Drawing → Drawing → List ℕ → Shift
before p q numbers = record { vars = numbers; instances = 0; memories = 0; rungs = 0; past = if q.rungs == 0 then None else Some p.rungs }

-- of what NEW has: all but its variables come after those of OLD
abbrev pub after : Drawing → List ℕ → Shift
after p numbers = record { vars = numbers; instances = length p.decls.instances; memories = memories_of p; rungs = p.rungs; past = None }
