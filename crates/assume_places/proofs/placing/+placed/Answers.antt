use Rattle.std.proofs.Common.{◌≡◌, ◌∙◌, ap, List, Bool, [], Some}
use Rattle.st_expression.specs.declared.expression.Expression.{Expression}
use Rattle.st_expression.specs.Value.{held_by, value}
use Rattle.assume_places.specs.Places.{IsPlaced, values_at}
use Rattle.assume_places.proofs.AtPlaces.{and_same, equal_same, exclusive_same, not_same, of_ok, or_same}
use Rattle.assume_places.proofs.placing.+placed.Goals as goal

pub returns-in_ok-inner-in-Not : goal.returns-in_ok-inner-in-Not
returns-in_ok-inner-in-Not t c = λ (values : List Bool).
    let made : IsPlaced (Some c.deref.result.now) c.args.places.now (Some c.in_ok-inner-in-Not.inner.value) = of_ok (λ (x : Expression). IsPlaced (Some c.deref.result.now) c.args.places.now (Some x)) c.placed.result c.in_ok-inner-in-Not.inner.value
    c.in_ok-inner-in-Not.ensures c.placed.ensures in
    not_same (held_by values []) (held_by (values_at c.args.places.now values) []) c.args.expression.now c.in_ok-inner-in-Not.inner c.in-Not.negated c.in-Not.is (made values ∙ ap (value (held_by (values_at c.args.places.now values) [])) c.deref.ensures)

pub returns-in_ok-first-in-Equal : goal.returns-in_ok-first-in-Equal
returns-in_ok-first-in-Equal t c = λ (values : List Bool).
    let first : IsPlaced (Some c.deref-in-Equal.result.now) c.args.places.now (Some c.in_ok-first-in-Equal.field-0.first.value)
    = of_ok (λ (x : Expression). IsPlaced (Some c.deref-in-Equal.result.now) c.args.places.now (Some x)) c.placed-first.result c.in_ok-first-in-Equal.field-0.first.value
    c.in_ok-first-in-Equal.ensures.first c.placed-first.ensures in
    let second : IsPlaced (Some c.deref-in-Equal-2.result.now) c.args.places.now (Some c.in_ok-first-in-Equal.field-0.second.value)
    = of_ok (λ (x : Expression). IsPlaced (Some c.deref-in-Equal-2.result.now) c.args.places.now (Some x)) c.placed-second.result c.in_ok-first-in-Equal.field-0.second.value
    c.in_ok-first-in-Equal.ensures.second c.placed-second.ensures in
    equal_same (held_by values []) (held_by (values_at c.args.places.now values) []) c.args.expression.now c.in_ok-first-in-Equal.field-0.first c.in_ok-first-in-Equal.field-0.second
    c.in-Equal.first c.in-Equal.second
    (first values ∙ ap (value (held_by (values_at c.args.places.now values) [])) c.deref-in-Equal.ensures)
    (second values ∙ ap (value (held_by (values_at c.args.places.now values) [])) c.deref-in-Equal-2.ensures) c.in-Equal.is

pub returns-in_ok-first-in-And : goal.returns-in_ok-first-in-And
returns-in_ok-first-in-And t c = λ (values : List Bool).
    let first : IsPlaced (Some c.deref-in-And.result.now) c.args.places.now (Some c.in_ok-first-in-And.field-0.first.value)
    = of_ok (λ (x : Expression). IsPlaced (Some c.deref-in-And.result.now) c.args.places.now (Some x)) c.placed-first-in-And.result c.in_ok-first-in-And.field-0.first.value
    c.in_ok-first-in-And.ensures.first c.placed-first-in-And.ensures in
    let second : IsPlaced (Some c.deref-in-And-2.result.now) c.args.places.now (Some c.in_ok-first-in-And.field-0.second.value)
    = of_ok (λ (x : Expression). IsPlaced (Some c.deref-in-And-2.result.now) c.args.places.now (Some x)) c.placed-second-in-And.result c.in_ok-first-in-And.field-0.second.value
    c.in_ok-first-in-And.ensures.second c.placed-second-in-And.ensures in
    and_same (held_by values []) (held_by (values_at c.args.places.now values) []) c.args.expression.now c.in_ok-first-in-And.field-0.first c.in_ok-first-in-And.field-0.second
    c.in-And.first c.in-And.second
    (first values ∙ ap (value (held_by (values_at c.args.places.now values) [])) c.deref-in-And.ensures)
    (second values ∙ ap (value (held_by (values_at c.args.places.now values) [])) c.deref-in-And-2.ensures) c.in-And.is

pub returns-in_ok-first-in-Exclusive : goal.returns-in_ok-first-in-Exclusive
returns-in_ok-first-in-Exclusive t c = λ (values : List Bool).
    let first : IsPlaced (Some c.deref-in-Exclusive.result.now) c.args.places.now (Some c.in_ok-first-in-Exclusive.field-0.first.value)
    = of_ok (λ (x : Expression). IsPlaced (Some c.deref-in-Exclusive.result.now) c.args.places.now (Some x)) c.placed-first-in-Exclusive.result c.in_ok-first-in-Exclusive.field-0.first.value
    c.in_ok-first-in-Exclusive.ensures.first c.placed-first-in-Exclusive.ensures in
    let second : IsPlaced (Some c.deref-in-Exclusive-2.result.now) c.args.places.now (Some c.in_ok-first-in-Exclusive.field-0.second.value)
    = of_ok (λ (x : Expression). IsPlaced (Some c.deref-in-Exclusive-2.result.now) c.args.places.now (Some x)) c.placed-second-in-Exclusive.result c.in_ok-first-in-Exclusive.field-0.second.value
    c.in_ok-first-in-Exclusive.ensures.second c.placed-second-in-Exclusive.ensures in
    exclusive_same (held_by values []) (held_by (values_at c.args.places.now values) []) c.args.expression.now c.in_ok-first-in-Exclusive.field-0.first c.in_ok-first-in-Exclusive.field-0.second
    c.in-Exclusive.first c.in-Exclusive.second
    (first values ∙ ap (value (held_by (values_at c.args.places.now values) [])) c.deref-in-Exclusive.ensures)
    (second values ∙ ap (value (held_by (values_at c.args.places.now values) [])) c.deref-in-Exclusive-2.ensures) c.in-Exclusive.is

pub returns-in_ok-first-in-Or : goal.returns-in_ok-first-in-Or
returns-in_ok-first-in-Or t c = λ (values : List Bool).
    let first : IsPlaced (Some c.deref-in-Or.result.now) c.args.places.now (Some c.in_ok-first-in-Or.field-0.first.value)
    = of_ok (λ (x : Expression). IsPlaced (Some c.deref-in-Or.result.now) c.args.places.now (Some x)) c.placed-first-in-Or.result c.in_ok-first-in-Or.field-0.first.value
    c.in_ok-first-in-Or.ensures.first c.placed-first-in-Or.ensures in
    let second : IsPlaced (Some c.deref-in-Or-2.result.now) c.args.places.now (Some c.in_ok-first-in-Or.field-0.second.value)
    = of_ok (λ (x : Expression). IsPlaced (Some c.deref-in-Or-2.result.now) c.args.places.now (Some x)) c.placed-second-in-Or.result c.in_ok-first-in-Or.field-0.second.value
    c.in_ok-first-in-Or.ensures.second c.placed-second-in-Or.ensures in
    or_same (held_by values []) (held_by (values_at c.args.places.now values) []) c.args.expression.now c.in_ok-first-in-Or.field-0.first c.in_ok-first-in-Or.field-0.second
    c.in-Or.first c.in-Or.second
    (first values ∙ ap (value (held_by (values_at c.args.places.now values) [])) c.deref-in-Or.ensures)
    (second values ∙ ap (value (held_by (values_at c.args.places.now values) [])) c.deref-in-Or-2.ensures) c.in-Or.is
