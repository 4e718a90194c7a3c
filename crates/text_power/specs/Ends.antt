-- Private: the search for the places where power ends, from column to column.
use Rattle.std.specs.Prelude.{◌≡◌, ◌<◌, ℕ, ◌%◌, ◌/◌, Bool, false, true, ◌||◌, if◌then◌else◌, List, [], ◌∷◌, length, map, slice_index_or, Option, Some, None, zero, suc}
use Rattle.std.specs.List.{list_any}
use Rattle.diagram_program.specs.declared.geometry.TheConstants.{ROWS, PLACES}
use Rattle.diagram_program.specs.Program.{Drawing, is_block, site_at}
use Rattle.scan_cycle.specs.declared.seen.Mark.{Mark}
use Rattle.scan_cycle.specs.Routes.{Route, block_end, through}
use Rattle.text_power.specs.declared.ends.Rung.{Rung}
use Rattle.text_power.specs.Why.{end_of, is_some_of, routes_to}

-- What a definition says of a rung.
abbrev pub of_rung : {A : Type 0} → (Drawing → List Mark → ℕ → A) → Rung → A
of_rung f x = f x.program.now x.marks.now x.number

abbrev pub is_nowhere : Option ℕ → Bool
is_nowhere None = true
is_nowhere (Some m) = false

-- Power ends nowhere on the route.
abbrev pub is_live : Drawing → List Mark → ℕ → Route → Bool
is_live p marks j r = is_nowhere (end_of p marks j r)

abbrev pub is_ended : ℕ → Drawing → List Mark → ℕ → Route → Bool
is_ended n p marks j r = is_some_of n (end_of p marks j r)

-- One of the routes to a place passes the test.
abbrev pub any_to : (Route → Bool) → Drawing → ℕ → ℕ → Bool
any_to test p j at = list_any test (routes_to p j (at % ROWS) (at / ROWS))

-- The routes to the right link of a cell.
abbrev pub routes_past : Drawing → ℕ → ℕ → ℕ → List Route
routes_past p j row column =
    if is_block (site_at p j row column).cell then block_end row column ∷ [] else map (λ r. through r row column) (routes_to p j row column)

abbrev pub any_past : (Route → Bool) → Drawing → ℕ → ℕ → ℕ → Bool
any_past test p j row column = list_any test (routes_past p j row column)

-- One of the numbers below n passes the test.
unfoldable pub any_below : (ℕ → Bool) → ℕ → Bool
any_below f zero = false
any_below f (suc n) = any_below f n || f n

-- These are the answers of a test for the first n places.
pub record AreAnswers (test : Route → Bool) (p : Drawing) (j n : ℕ) (answers : List Bool) : Type 0 where
  pub size : length answers ≡ PLACES
  pub each : (at : ℕ) → at < n → slice_index_or answers at false ≡ any_to test p j at
