use Rattle.std.proofs.Common.{ℕ, List, Bool}
use Rattle.st_expression.specs.Value.{value}
use Rattle.assume_places.proofs.AtPlaces.{at_place, past_places}
use Rattle.assume_places.proofs.placing.placed_input.Goals as goal

pub returns-in-Some : goal.returns-in-Some
unfolding value
returns-in-Some c = λ (values : List Bool). at_place c.args.places.now values c.args.place c.in-Some.there.now c.in-Some.ensures.lookup.3.0 c.in-Some.ensures.lookup.3.1

pub returns-in-None : goal.returns-in-None
unfolding value
returns-in-None c = λ (values : List Bool). past_places c.args.places.now values c.args.place c.in-None.ensures.lookup.3
