use Rattle.std.proofs.Common.{arith, refl, subst, sym}
use Rattle.invariant_sets.specs.Pairs.{IsToldApart}
use Rattle.std.proofs.lemmas.List.Elements.{All-contains_itself}
use Rattle.invariant_sets.proofs.Kept.{excluded_from, within_both}
use Rattle.invariant_sets.proofs.Settled.{kept_on}
use Rattle.invariant_cases.specs.Assuming.{assumed_of}
use Rattle.invariant_sets.proofs.removing_pairs.settle.Goals as goal

pub loop-removed-init : goal.loop-removed-init
loop-removed-init c = record {
  told = λ pair told there. there;
  within = All-contains_itself c.args.pairs.now.items;
  excluded = λ e. absurd (omega (arith, e));
  buffers = record { case = refl; trial = c.requires.buffers.trial; room = refl };
}

pub loop-removed-preserved : goal.loop-removed-preserved
loop-removed-preserved c =
    let inv = c.loop-removed.invariant in record {
      told = λ pair told there. c.remove-removed.ensures.told pair (subst (IsToldApart c.args.basis.program.now pair) (sym inv.buffers.case) told) (inv.told pair told there);
      within = within_both c.args.pairs.now.items c.loop-removed.pairs.items _ inv.within c.remove-removed.ensures.within;
      excluded = λ none. excluded_from c.args.basis.program.now (assumed_of c.args.basis.assumption) _ _ c.args.buffers.now.case inv.buffers.case (c.remove-removed.ensures.excluded none);
      buffers = kept_on c.args.basis.program.now _ _ _ inv.buffers c.remove-removed.ensures.buffers;
    }
