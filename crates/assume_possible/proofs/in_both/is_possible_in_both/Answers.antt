use Rattle.std.proofs.Common.{◌∙◌, ◌-◌, ap, arith, refl, sym}
use Rattle.search_tree.specs.Looks.{rest}
use Rattle.search_tree.specs.declared.walk.Plan.{Plan}
use Rattle.assume_possible.specs.declared.every.Every.{Every}
use Rattle.assume_possible.proofs.Filtered.{found_in_both, not_found_in_both, planned_in_both, searched_in_both}
use Rattle.assume_possible.proofs.in_both.is_possible_in_both.Goals as goal

pub advance-requires-clause-walking : goal.advance-requires-clause-walking
advance-requires-clause-walking c =
    let tail = c.tail-tail.result in
    let plan : Plan = record { tail = tail; top = c.args.bits - tail; first = 0 } in
    let every : Every = record { tail = tail; top = c.args.bits - tail; looks = 0; longest = 0 } in
    c.begin-walk.ensures.walking (searched_in_both c.args.old.now c.args.old_sources.items c.args.new.now c.args.new_sources.items every)
    (planned_in_both c.args.old.now c.args.new.now c.args.old_sources.items c.args.new_sources.items every plan refl refl refl (omega (arith, c.tail-tail.ensures)) (omega (arith, c.tail-tail.ensures, c.requires)))

pub advance-requires-clause-longest : goal.advance-requires-clause-longest
advance-requires-clause-longest c =
    let tail = c.tail-tail.result in
    let plan : Plan = record { tail = tail; top = c.args.bits - tail; first = 0 } in
    let every : Every = record { tail = tail; top = c.args.bits - tail; looks = 0; longest = 0 } in
    c.begin-walk.ensures.longest (searched_in_both c.args.old.now c.args.old_sources.items c.args.new.now c.args.new_sources.items every)
    (planned_in_both c.args.old.now c.args.new.now c.args.old_sources.items c.args.new_sources.items every plan refl refl refl (omega (arith, c.tail-tail.ensures)) (omega (arith, c.tail-tail.ensures, c.requires)))

pub returns-in-Some-clause-some : goal.returns-in-Some-clause-some
returns-in-Some-clause-some c = λ _.
    let tail = c.tail-tail.result in
    let every : Every = record { tail = tail; top = c.args.bits - tail; looks = 0; longest = 0 } in
    let s = searched_in_both c.args.old.now c.args.old_sources.items c.args.new.now c.args.new_sources.items every in
    found_in_both c.args.old.now c.args.new.now c.args.old_sources.items c.args.new_sources.items every c.args.bits _ _ (omega (arith, c.tail-tail.ensures)) (ap (rest s) (sym c.begin-walk.ensures.number) ∙ c.in-Some.ensures.gives)

pub returns-clause-none : goal.returns-clause-none
returns-clause-none c = λ _.
    let tail = c.tail-tail.result in
    let every : Every = record { tail = tail; top = c.args.bits - tail; looks = 0; longest = 0 } in
    let s = searched_in_both c.args.old.now c.args.old_sources.items c.args.new.now c.args.new_sources.items every in
    not_found_in_both c.args.old.now c.args.new.now c.args.old_sources.items c.args.new_sources.items every c.args.bits (omega (arith, c.tail-tail.ensures)) (ap (rest s) (sym c.begin-walk.ensures.number) ∙ c.in-None.ensures.gives)
