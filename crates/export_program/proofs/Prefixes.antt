-- A word that begins with a name.
use Rattle.std.proofs.Common.{ℕ, List, Option, Some, None, Bor}
use Rattle.std.specs.Option.{IfSome, MatchOption}

-- what is said of the value, where there is one
pub of_value : (r : Option (Bor (List ℕ))) (None_says : Type 0) (Says : Bor (List ℕ) → Type 0) → MatchOption r None_says Says → IfSome r Says
of_value None None_says Says says = tt
of_value (Some x) None_says Says says = says
