use Rattle.std.proofs.Common.{refl, List, Bool, Ok}
use Rattle.assume_places.proofs.AtPlaces.{and_allowed}
use Rattle.assume_places.proofs.joining.both.Goals as goal

pub returns-in_ok-first-in-Some-Some-clause-both : goal.returns-in_ok-first-in-Some-Some-clause-both
returns-in_ok-first-in-Some-Some-clause-both c = λ (values : List Bool).
    let made = c.in_ok-first-in-Some-Some in
    and_allowed values c.args.first c.args.second c.in-Some-Some.first c.in-Some-Some.second made.field-0.first made.field-0.second
    (Ok c.in-Some-Some.first) (Ok c.in-Some-Some.second) c.in-Some-Some.is-0 c.in-Some-Some.is-1 refl made.ensures.first refl made.ensures.second
