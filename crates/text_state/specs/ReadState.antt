-- What the reading of a state text returns.
use Rattle.std.specs.Prelude.{◌≡◌, ◌+◌, ⊤, ℕ, List, Result, Ok, Err, take}
use Rattle.io_text.specs.Left.{Fields}
use Rattle.diagram_program.specs.Program.{Drawing}
use Rattle.scan_cycle.specs.Standing.{Standing}
use Rattle.text_state.specs.declared.fault.StateFault.{StateFault}
use Rattle.text_state.specs.declared.fault.StateFault.TheVariants as fault
use Rattle.text_state.specs.StateText.{HasRecords, IsStateOf}

-- the first k records are the first of those of some state
abbrev pub Begins : Drawing → List Fields → ℕ → Type 0
Begins p rows k = (s : Standing) × (all : List Fields) × IsStateOf p s × HasRecords p s all × (take k rows ≡ take k all)

-- The record of number n, counted from 1, is the first that isn't of its form: the records before it are the first of some state, and
-- with it they are those of none. It may be missing.
pub record IsFirstBad (p : Drawing) (rows : List Fields) (n : ℕ) : Type 0 where
  pub before : ℕ
  pub count : n ≡ before + 1
  pub front : Begins p rows before
  pub none : Begins p rows n → ⊥

-- The state whose records these are is returned, and otherwise the number of the first bad one.
abbrev pub Reads : Drawing → List Fields → Result Standing StateFault → Type 0
Reads p rows (Ok s) = IsStateOf p s × HasRecords p s rows
Reads p rows (Err (fault.BadRow n)) = IsFirstBad p rows n
Reads p rows (Err fault.Memory) = ⊤
