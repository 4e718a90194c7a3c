-- A law over the definition.
use Rattle.std.specs.Prelude.{◌≡◌, ℕ, List}
use Rattle.diagram_declarations.specs.declared.decls.Instance.{Instance}
use Rattle.scan_cycle.specs.Rung.{Held}
use Rattle.st_statements.specs.Run.{Ran}
use Rattle.network_power.specs.declared.network.Network.{Network}
use Rattle.network_check.specs.declared.effect.Effect.{Effect}
use Rattle.network_check.specs.Runs.{Runs}

-- From a state, at a moment, elements leave one thing. So what statements leave that pass the check is all that the elements leave.
abbrev pub IsDetermined : Type 0
IsDetermined = (net : Network) (instances : List Instance) (now : ℕ) (effects : List Effect) (h : Held) (r s : Ran)
    → Runs net instances now effects h r → Runs net instances now effects h s → r ≡ s
