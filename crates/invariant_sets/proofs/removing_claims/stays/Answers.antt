use Rattle.std.proofs.Common.{◌≡◌, ◌∙◌, ap, subst, sym}
use Rattle.scan_signals.specs.Three.{three_known}
use Rattle.invariant_cases.specs.Cases.{IsSettledAssuming, point_of, told}
use Rattle.invariant_cases.specs.declared.pair.Pair.{Pair}
use Rattle.invariant_cases.proofs.Values.{is_off, is_on, off_known, on_known, unsure_known}
use Rattle.invariant_sets.specs.Removing.{left_so}
use Rattle.invariant_sets.proofs.Settled.{neither_on, told_settled}
use Rattle.invariant_cases.specs.Assuming.{assumed_of}
use Rattle.invariant_sets.proofs.removing_claims.stays.Goals as goal

pub returns-in-Off-clause-stays : goal.returns-in-Off-clause-stays
returns-in-Off-clause-stays c = λ yes.
    let r = c.args.round in
    let is : told (point_of c.args.symbol) r.after.now ≡ three_known c.args.wanted =
    ap (λ x. told x r.after.now) (sym c.point_of.ensures) ∙ sym c.told.ensures ∙ c.in-Off.is ∙ off_known c.args.wanted yes in
    left_so (told_settled r.basis.program.now (assumed_of r.basis.assumption) r.pairs.now c.args.symbol c.args.wanted c.args.buffers.now.case (ap (told (point_of c.args.symbol)) (sym c.requires.after) ∙ is)) (λ none. is)

pub returns-in-Off-clause-told : goal.returns-in-Off-clause-told
returns-in-Off-clause-told c = λ known. is_off c.args.wanted (sym c.in-Off.is ∙ c.told.ensures ∙ ap (λ x. told x c.args.round.after.now) c.point_of.ensures ∙ known)

pub returns-in-On-clause-stays : goal.returns-in-On-clause-stays
returns-in-On-clause-stays c = λ yes.
    let r = c.args.round in
    let is : told (point_of c.args.symbol) r.after.now ≡ three_known c.args.wanted =
    ap (λ x. told x r.after.now) (sym c.point_of.ensures) ∙ sym c.told.ensures ∙ c.in-On.is ∙ on_known c.args.wanted yes in
    left_so (told_settled r.basis.program.now (assumed_of r.basis.assumption) r.pairs.now c.args.symbol c.args.wanted c.args.buffers.now.case (ap (told (point_of c.args.symbol)) (sym c.requires.after) ∙ is)) (λ none. is)

pub returns-in-On-clause-told : goal.returns-in-On-clause-told
returns-in-On-clause-told c = λ known. is_on c.args.wanted (sym c.in-On.is ∙ c.told.ensures ∙ ap (λ x. told x c.args.round.after.now) c.point_of.ensures ∙ known)

pub returns-in-Unsure-clause-stays : goal.returns-in-Unsure-clause-stays
returns-in-Unsure-clause-stays c = λ yes.
    let r = c.args.round in
    let Settled : Pair → Type 0 = λ target. IsSettledAssuming r.basis.program.now (assumed_of r.basis.assumption) r.pairs.now target c.args.wanted c.args.buffers.now.case in
    left_so (subst Settled c.of_itself.ensures (c.settle.ensures.settled yes)) (λ none. neither_on (c.settle.ensures.none none) yes)

pub returns-in-Unsure-clause-told : goal.returns-in-Unsure-clause-told
returns-in-Unsure-clause-told c = λ known.
    absurd (unsure_known c.args.wanted (sym c.in-Unsure.is ∙ c.told.ensures ∙ ap (λ x. told x c.args.round.after.now) c.point_of.ensures ∙ known))
