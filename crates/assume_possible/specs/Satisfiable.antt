-- Whether any input values make an expression true, whatever inputs there are.
use Rattle.std.specs.Prelude.{◌≡◌, ◌++◌, ℕ, Bool, true, false, List, Some, None, slice_get}
use Rattle.st_expression.specs.declared.expression.Expression.{Expression}
use Rattle.scan_signals.specs.Three.{three_known}
use Rattle.scan_signals.specs.declared.tri.Tri.{Tri}
use Rattle.scan_signals.specs.declared.tri.Tri.TheVariants.{Unsure}
use Rattle.assume_truth.specs.Truth.{is_allowed}

-- Some values of the inputs make it true.
abbrev pub IsSatisfiable : Expression → Type 0
IsSatisfiable e = (inputs : List Bool) × (is_allowed (Some e) inputs ≡ true)

-- None do.
abbrev pub IsUnsatisfiable : Expression → Type 0
IsUnsatisfiable e = (inputs : List Bool) → is_allowed (Some e) inputs ≡ false

-- ---- the search: the first inputs are known, and those behind them are open

-- what is known of the input at a place
abbrev pub first_input : (known : List Bool) → ℕ → Tri
first_input known place = elim (slice_get known place) [ Some on ↦ three_known on | None ↦ Unsure ]

-- No values that begin with those known make it true.
abbrev pub IsUnsatisfiableFrom : (known : List Bool) → Expression → Type 0
IsUnsatisfiableFrom known e = (more : List Bool) → is_allowed (Some e) (known ++ more) ≡ false
