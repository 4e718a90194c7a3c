-- Private: how far the parts of a body have acted.
use Rattle.std.specs.Prelude.{◌≡◌, ℕ, List, ◌∷◌, Option, Some, None}
use Rattle.network_check.specs.declared.effect.Effect.{Effect}
use Rattle.network_routes.specs.Firsts.{AllWithin}
use Rattle.plc_elements.specs.declared.names.Body.{Body}
use Rattle.plc_elements.specs.declared.steps.Stage.{Stage}
use Rattle.plc_elements.specs.Elements.{parts_of}
use Rattle.plc_elements.specs.Order.{are_numbered}

-- This was done last, if it is known.
abbrev pub IsLast : Option Effect → (done : List Effect) → Type 0
IsLast None done = Unit {0}
IsLast (Some effect) done = (others : List Effect) × (done ≡ effect ∷ others)

-- This was done up to a stage.
pub record IsStage (b : Body) (firsts : List ℕ) (stage : Stage) (done : List Effect) : Type 0 where
  pub numbered : stage.numbered ≡ are_numbered (parts_of b)
  pub within : AllWithin b.network firsts stage.at done
  pub last : IsLast stage.last done
