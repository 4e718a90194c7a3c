use Rattle.std.proofs.Common.{◌∙◌, ◌<◌, List, length, arith, refl, subst, sym}
use Rattle.std.specs.Prelude.{Contains}
use Rattle.invariant_cases.specs.declared.pair.Pair.{Pair}
use Rattle.std.proofs.lemmas.List.Elements.{All-contains_itself}
use Rattle.invariant_sets.proofs.Kept.{all_excluded, fewer, one_excluded, still_there}
use Rattle.invariant_sets.proofs.Told.{not_told}
use Rattle.invariant_sets.proofs.Settled.{kept_on}
use Rattle.invariant_cases.specs.Assuming.{assumed_of}
use Rattle.invariant_sets.proofs.removing_pairs.remove.Goals as goal

pub loop-number-init : goal.loop-number-init
loop-number-init c = record {
  few = omega arith;
  told = λ pair told there. there;
  within = All-contains_itself c.args.pairs.now.items;
  count = omega arith;
  excluded = λ e k d l. absurd (omega (arith, l));
  buffers = record { case = refl; trial = c.requires.buffers.trial; room = refl };
}

pub loop-number-preserved-then-stays_apart : goal.loop-number-preserved-then-stays_apart
loop-number-preserved-then-stays_apart c =
    let inv = c.loop-number.invariant in record {
      few = omega (arith, c.loop-number-test.true, c.len.ensures);
      told = inv.told;
      within = inv.within;
      count = inv.count;
      excluded = λ none.
          one_excluded c.args.basis.program.now (assumed_of c.args.basis.assumption) c.loop-number.pairs.items _ c.args.buffers.now.case _ c.loop-number.number c.index.result.now
          (omega (arith, c.loop-number-test.true, c.len.ensures)) (inv.excluded none)
          (c.stays_apart.ensures.excluded c.if-stays_apart.true) c.deref.ensures.value inv.buffers.case c.index.ensures;
      buffers = kept_on c.args.basis.program.now _ _ _ inv.buffers c.stays_apart.ensures.buffers;
    }

pub loop-number-preserved : goal.loop-number-preserved
loop-number-preserved c =
    let inv = c.loop-number.invariant in record {
      few = omega (arith, c.loop-number-test.true, c.len.ensures, c.remove.ensures.len);
      told = λ pair told there.
          let here : c.loop-number.number < length c.loop-number.pairs.items = omega (arith, c.loop-number-test.true, c.len.ensures) in
          subst (λ (ps : List Pair). Contains ps pair) (sym c.remove.ensures.items)
          (still_there c.loop-number.pairs.items c.loop-number.number pair c.index.result.now here (inv.told pair told there)
          (λ e. not_told c.args.basis.program.now c.args.buffers.now.case c.loop-number.buffers.case pair c.index.result.now _ inv.buffers.case (e ∙ sym c.index.ensures) told
          c.stays_apart.ensures.told c.if-stays_apart.false));
      within = fewer c.args.pairs.now.items c.loop-number.pairs.items c.remove.new.self.items c.loop-number.number inv.within c.remove.ensures.items;
      count = omega (arith, inv.count, c.remove.ensures.len);
      excluded = λ e. absurd (omega (arith, e));
      buffers = kept_on c.args.basis.program.now _ _ _ inv.buffers c.stays_apart.ensures.buffers;
    }

pub returns-clause-excluded : goal.returns-clause-excluded
returns-clause-excluded c = λ none.
    all_excluded c.args.basis.program.now (assumed_of c.args.basis.assumption) c.loop-number.pairs.items c.args.buffers.now.case c.loop-number.number
    (omega (arith, c.loop-number-test.false, c.len.ensures)) (c.loop-number.invariant.excluded none)
