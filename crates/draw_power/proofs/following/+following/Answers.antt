use Rattle.std.proofs.Common.{◌∙◌, not, arith, refl}
use Rattle.draw_power.proofs.Trees.{again, and_deeper, and_off, and_on, both_drawn, equal_deeper, equal_is, exclusive_deeper, exclusive_is, first_never, not_deeper, not_is, nothing_drawn, or_deeper, or_off, or_on, second_never}
use Rattle.draw_power.proofs.following.+following.Goals as goal

pub beside-returns-then-is_never : goal.beside-returns-then-is_never
beside-returns-then-is_never t c = again _ _ _ _ _ (first_never c.args.pair (c.if-is_never.ensures refl)) c.follow.ensures

pub beside-returns-then-is_never-2 : goal.beside-returns-then-is_never-2
beside-returns-then-is_never-2 t c = again _ _ _ _ _ (second_never c.args.pair (c.if-is_never-2.ensures refl)) c.follow-then-is_never-2.ensures

pub crossed-returns-in-Some : goal.crossed-returns-in-Some
crossed-returns-in-Some t c = again _ _ _ _ _ c.in-Some.ensures.same c.follow.ensures

pub crossed-returns : goal.crossed-returns
crossed-returns t c =
    both_drawn _ _ _ _ _ c.args.pair c.inverse-inverse.result _ c.below-lower.ensures c.inverse-inverse.ensures.inverse
    c.in_ok-upper_end.ensures c.in_ok-lower_end.ensures c.joined.ensures

pub follow-returns-in-Some-true : goal.follow-returns-in-Some-true
follow-returns-in-Some-true t c = nothing_drawn _ _ _ (λ f. c.in-Some-true.ensures f ∙ c.in-Some-true.field-0-test)

pub follow-follow-requires : goal.follow-follow-requires
follow-follow-requires t c = (omega (arith, c.decreases, not_deeper _ _ _ _ c.in-Not.is c.deref.ensures), tt)

pub follow-series-requires : goal.follow-series-requires
follow-series-requires t c =
    (omega (arith, c.decreases, and_deeper _ _ _ _ _ _ _ c.new-pair.result _ _ c.new-pair.ensures c.deref-in-And.ensures c.deref-in-And-2.ensures c.in-And.is), tt)

pub follow-returns-in-Not : goal.follow-returns-in-Not
follow-returns-in-Not t c =
    again _ _ _ _ _ (not_is c.args.part (record { expression = c.deref.result; on = not c.args.part.on }) _ _ c.in-Not.is c.deref.ensures refl) c.follow.ensures

pub follow-returns-then-part : goal.follow-returns-then-part
follow-returns-then-part t c =
    again _ _ _ _ _
    (and_on c.args.part _ _ _ _ _ _ c.new-pair.result c.new-pair.ensures c.deref-in-And.ensures c.deref-in-And-2.ensures c.in-And.is c.if-part.true) c.series.ensures

pub follow-beside-requires : goal.follow-beside-requires
follow-beside-requires t c =
    (omega (arith, c.decreases, and_deeper _ _ _ _ _ _ _ c.new-pair.result _ _ c.new-pair.ensures c.deref-in-And.ensures c.deref-in-And-2.ensures c.in-And.is), tt)

pub follow-beside-requires-then-part-2 : goal.follow-beside-requires-then-part-2
follow-beside-requires-then-part-2 t c =
    (omega (arith, c.decreases, or_deeper _ _ _ _ _ _ _ c.new-pair-in-Or.result _ _ c.new-pair-in-Or.ensures c.deref-in-Or.ensures c.deref-in-Or-2.ensures c.in-Or.is), tt)

pub follow-series-requires-else-part-2 : goal.follow-series-requires-else-part-2
follow-series-requires-else-part-2 t c =
    (omega (arith, c.decreases, or_deeper _ _ _ _ _ _ _ c.new-pair-in-Or.result _ _ c.new-pair-in-Or.ensures c.deref-in-Or.ensures c.deref-in-Or-2.ensures c.in-Or.is), tt)

pub follow-crossed-requires : goal.follow-crossed-requires
follow-crossed-requires t c =
    (omega (arith, c.decreases, equal_deeper _ _ _ _ _ _ _ c.new.result _ _ c.new.ensures c.deref-in-Equal.ensures c.deref-in-Equal-2.ensures c.in-Equal.is), tt)

pub follow-crossed-requires-in-Exclusive : goal.follow-crossed-requires-in-Exclusive
follow-crossed-requires-in-Exclusive t c =
    (omega (arith, c.decreases, exclusive_deeper _ _ _ _ _ _ _ c.new-in-Exclusive.result _ _ c.new-in-Exclusive.ensures c.deref-in-Exclusive.ensures c.deref-in-Exclusive-2.ensures c.in-Exclusive.is), tt)

pub follow-returns-else-part : goal.follow-returns-else-part
follow-returns-else-part t c =
    again _ _ _ _ _
    (and_off c.args.part _ _ _ _ _ _ c.new-pair.result c.new-pair.ensures c.deref-in-And.ensures c.deref-in-And-2.ensures c.in-And.is c.if-part.false) c.beside.ensures

pub follow-returns-then-part-2 : goal.follow-returns-then-part-2
follow-returns-then-part-2 t c =
    again _ _ _ _ _
    (or_on c.args.part _ _ _ _ _ _ c.new-pair-in-Or.result c.new-pair-in-Or.ensures c.deref-in-Or.ensures c.deref-in-Or-2.ensures c.in-Or.is c.if-part-2.true)
    c.beside-then-part-2.ensures

pub follow-returns-else-part-2 : goal.follow-returns-else-part-2
follow-returns-else-part-2 t c =
    again _ _ _ _ _
    (or_off c.args.part _ _ _ _ _ _ c.new-pair-in-Or.result c.new-pair-in-Or.ensures c.deref-in-Or.ensures c.deref-in-Or-2.ensures c.in-Or.is c.if-part-2.false)
    c.series-else-part-2.ensures

pub follow-returns-in-Equal : goal.follow-returns-in-Equal
follow-returns-in-Equal t c =
    again _ _ _ _ _ (equal_is c.args.part _ _ _ _ _ _ c.new.result c.new.ensures c.deref-in-Equal.ensures c.deref-in-Equal-2.ensures c.in-Equal.is) c.crossed.ensures

pub follow-returns-in-Exclusive : goal.follow-returns-in-Exclusive
follow-returns-in-Exclusive t c =
    again _ _ _ _ _
    (exclusive_is c.args.part _ _ _ _ _ _ c.new-in-Exclusive.result c.new-in-Exclusive.ensures c.deref-in-Exclusive.ensures c.deref-in-Exclusive-2.ensures c.in-Exclusive.is)
    c.crossed-in-Exclusive.ensures
