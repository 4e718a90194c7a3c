use Rattle.std.proofs.Common.{◌∙◌, ◌-◌, ap, arith, refl, Some, sym}
use Rattle.assume_search.specs.Assumed.{assuming}
use Rattle.search_tree.specs.Looks.{rest}
use Rattle.search_tree.specs.declared.walk.Plan.{Plan}
use Rattle.assume_possible.specs.Possible.{every_search}
use Rattle.assume_possible.specs.declared.every.Every.{Every}
use Rattle.assume_possible.proofs.Filtered.{found, not_found, planned}
use Rattle.assume_possible.proofs.possible.is_possible.Goals as goal

pub advance-requires-clause-walking : goal.advance-requires-clause-walking
advance-requires-clause-walking c =
    let tail = c.tail-tail.result in
    let plan : Plan = record { tail = tail; top = c.args.bits - tail; first = 0 } in
    let every : Every = record { tail = tail; top = c.args.bits - tail; looks = 0; longest = 0 } in
    c.begin-walk.ensures.walking (assuming (Some c.args.assumed.now) c.args.sources.items (every_search every))
    (planned c.args.assumed.now c.args.sources.items every plan refl refl refl (omega (arith, c.tail-tail.ensures)) (omega (arith, c.tail-tail.ensures, c.requires)))

pub advance-requires-clause-longest : goal.advance-requires-clause-longest
advance-requires-clause-longest c =
    let tail = c.tail-tail.result in
    let plan : Plan = record { tail = tail; top = c.args.bits - tail; first = 0 } in
    let every : Every = record { tail = tail; top = c.args.bits - tail; looks = 0; longest = 0 } in
    c.begin-walk.ensures.longest (assuming (Some c.args.assumed.now) c.args.sources.items (every_search every))
    (planned c.args.assumed.now c.args.sources.items every plan refl refl refl (omega (arith, c.tail-tail.ensures)) (omega (arith, c.tail-tail.ensures, c.requires)))

pub returns-in-Some-clause-some : goal.returns-in-Some-clause-some
returns-in-Some-clause-some c = λ _.
    let tail = c.tail-tail.result in
    let every : Every = record { tail = tail; top = c.args.bits - tail; looks = 0; longest = 0 } in
    let s = assuming (Some c.args.assumed.now) c.args.sources.items (every_search every) in
    found c.args.assumed.now c.args.sources.items every c.args.bits _ _ (omega (arith, c.tail-tail.ensures)) (ap (rest s) (sym c.begin-walk.ensures.number) ∙ c.in-Some.ensures.gives)

pub returns-clause-none : goal.returns-clause-none
returns-clause-none c = λ _.
    let tail = c.tail-tail.result in
    let every : Every = record { tail = tail; top = c.args.bits - tail; looks = 0; longest = 0 } in
    let s = assuming (Some c.args.assumed.now) c.args.sources.items (every_search every) in
    not_found c.args.assumed.now c.args.sources.items every c.args.bits (omega (arith, c.tail-tail.ensures)) (ap (rest s) (sym c.begin-walk.ensures.number) ∙ c.in-None.ensures.gives)
