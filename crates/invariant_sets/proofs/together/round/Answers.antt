use Rattle.std.proofs.Common.{◌∙◌, ◌≡◌, List, arith, subst, sym}
use Rattle.invariant_cases.specs.declared.pair.Pair.{Pair}
use Rattle.invariant_cases.specs.Assuming.{assumed_of}
use Rattle.invariant_sets.specs.Invariants.{IsSettledSoAssuming}
use Rattle.invariant_sets.specs.Never.{Bits}
use Rattle.invariant_sets.specs.Pairs.{ArePairsAssuming, HasToldApart}
use Rattle.invariant_sets.proofs.Kept.{are_pairs}
use Rattle.invariant_sets.proofs.Told.{still_told}
use Rattle.invariant_sets.proofs.together.round.Goals as goal

pub returns-clause-together : goal.returns-clause-together
returns-clause-together c =
    let p = c.args.start.program.now in
    let a = assumed_of c.args.start.assumption in
    let s = c.args.start.state.now in
    let z = c.args.set.now in
    let pairs = c.settle.new.pairs.items in
    let may = c.in_ok-pairs.ensures.may in
    let none = c.remove.ensures.same (omega (arith, c.if-remove-gt0.false)) in
    let same : c.remove-2.new.set ≡ z = c.remove-2.ensures.same (omega (arith, c.if-remove-gt0-2.false)) ∙ none in
    let settled = c.remove-2.ensures.settled (omega (arith, c.if-remove-gt0-2.false)) in
    record {
      settled = subst (λ (ps : List Pair). IsSettledSoAssuming p a c.remove-2.new.set ps) c.deref-2.ensures.value settled;
      apart = subst (λ (w : Bits). ArePairsAssuming p a s w pairs) (sym same)
          (are_pairs p a s z c.in_ok-pairs.pairs.items pairs c.remove.new.buffers.case may.outside may.apart c.settle.ensures.within c.settle.ensures.excluded c.remove.ensures.case);
      told = subst (λ (w : Bits). HasToldApart p s w pairs) (sym same)
          (still_told p s z c.in_ok-pairs.pairs.items pairs c.remove.new.buffers.case c.remove.ensures.case may.told c.settle.ensures.told);
    }
