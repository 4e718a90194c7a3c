use Rattle.std.proofs.Common.{◌∙◌, subst, sym, false, true}
use Rattle.invariant_cases.proofs.Values.{same_value, unsure_known}
use Rattle.invariant_sets.specs.Removing.{IsLeftSo}
use Rattle.invariant_cases.specs.Assuming.{assumed_of}
use Rattle.invariant_sets.proofs.removing_claims.keeps.Goals as goal

pub returns-in-Off-clause-stays : goal.returns-in-Off-clause-stays
returns-in-Off-clause-stays c = λ yes value m.
    let r = c.args.round in
    subst (IsLeftSo r.basis.program.now (assumed_of r.basis.assumption) r.pairs.now c.args.symbol r.after.now c.args.buffers.now.case r.basis.scans) (same_value false value (sym c.in-Off.is ∙ m)) (c.stays.ensures.stays yes)

pub returns-in-On-clause-stays : goal.returns-in-On-clause-stays
returns-in-On-clause-stays c = λ yes value m.
    let r = c.args.round in
    subst (IsLeftSo r.basis.program.now (assumed_of r.basis.assumption) r.pairs.now c.args.symbol r.after.now c.args.buffers.now.case r.basis.scans) (same_value true value (sym c.in-On.is ∙ m)) (c.stays-in-On.ensures.stays yes)

pub returns-in-Unsure-clause-stays : goal.returns-in-Unsure-clause-stays
returns-in-Unsure-clause-stays c = λ yes value m. absurd (unsure_known value (sym c.in-Unsure.is ∙ m))
