use Rattle.std.proofs.Common.{◌∙◌, ap, sym}
use Rattle.invariant_cases.specs.Cases.{told, by_first, by_second}
use Rattle.invariant_cases.specs.declared.point.Point.{Point}
use Rattle.invariant_cases.proofs.partners.forced_by.Goals as goal

pub returns-in-On-Unsure : goal.returns-in-On-Unsure
returns-in-On-Unsure c = λ pairs among.
    by_first c.args.pair among (ap (λ (x : Point). told x c.args.case.now) (sym c.point_of-first.ensures) ∙ sym c.told.ensures ∙ c.in-On-Unsure.is-0) c.point_of-second.ensures

pub returns-in-Unsure-On : goal.returns-in-Unsure-On
returns-in-Unsure-On c = λ pairs among.
    by_second c.args.pair among (ap (λ (x : Point). told x c.args.case.now) (sym c.point_of-second.ensures) ∙ sym c.told-2.ensures ∙ c.in-Unsure-On.is-1) c.point_of-first.ensures
