-- A run that comes to a number comes from a state that leads to it.
use Rattle.std.specs.Prelude.{◌≡◌, ℕ, true, List, Option}
use Rattle.std.specs.List.{list_all}
use Rattle.st_expression.specs.declared.expression.Expression.{Expression}
use Rattle.diagram_program.specs.Program.{Drawing}
use Rattle.scan_cycle.specs.Standing.{Fits, IsStanding, Standing}
use Rattle.causes_query.specs.Tests.{is_input_variable}
use Rattle.causes_any_state.specs.Possible.{AreStatesOf, SomeLeavesBy}
use Rattle.causes_any_state.specs.declared.states.States.{States}
use Rattle.causes_in_runs.specs.Rows.{AllCount, IsUnreached}

-- Where no state that counts leads to a number, no run from a state comes to it, if each state that a run reaches counts. Where something is assumed,
-- it is of states and runs with which it is true.
abbrev pub RunsLead : Drawing → Type 0
RunsLead p = (assumed : Option Expression) (s : Standing) → Fits p s → IsStanding s → (states : States) → AreStatesOf p states → AllCount assumed p s states
    → (coil : ℕ) (listed : List ℕ) → list_all (is_input_variable p) listed ≡ true → (n : ℕ) → (SomeLeavesBy assumed p coil listed states true n → ⊥)
    → IsUnreached assumed p s coil listed n
