-- What a look leaves of one variable.
use Rattle.std.specs.Prelude.{ℕ, false, List, slice_index_or}
use Rattle.scan_signals.specs.Algebra.{Algebra}
use Rattle.scan_cycle.specs.Cells.{Diagram}
use Rattle.scan_cycle.specs.Rung.{Held}
use Rattle.scan_symbolic.specs.Look.{after_look}
use Rattle.scan_symbolic.specs.declared.outcome.Outcome.{Outcome}

-- the value that an outcome says a look left
abbrev pub outcome_of : {S : Type 0} → Outcome S → S
outcome_of x = x.value

-- the value of a variable after a look; past the last variable it is OFF
abbrev pub left_of : {S : Type 0} → Algebra S → Diagram → ℕ → List S → Held → ℕ → S
left_of o d now inputs h var = slice_index_or (after_look o d now inputs h) var (o.known false)
