use Rattle.std.proofs.Common.{◌∙◌, ap, sym, Bor, List, Bool, Option}
use Rattle.std.specs.Prelude.{option_map}
use Rattle.st_expression.specs.declared.expression.Expression.{Expression}
use Rattle.assume_truth.specs.Truth.{is_allowed}
use Rattle.assume_places.specs.Places.{values_at}
use Rattle.assume_places.proofs.joining.placed_there.Goals as goal

pub returns-in-Ok-clause-placed : goal.returns-in-Ok-clause-placed
returns-in-Ok-clause-placed c = λ (values : List Bool).
    c.in-Ok.ensures values
    ∙ ap (λ (e : Option (Bor Expression)). is_allowed (option_map (λ x. x.now) e) (values_at c.args.assumed.places.now values)) (sym c.in-Some.is)
