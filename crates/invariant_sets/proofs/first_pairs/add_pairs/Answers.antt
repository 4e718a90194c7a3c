use Rattle.std.proofs.lemmas.List.Elements.{All-contains_itself, All-more, All-nil, Contains-get_or}
use Rattle.invariant_sets.proofs.Kept.{added_more, apart_more, each_on, grown, grown_on, none_added}
use Rattle.invariant_sets.specs.Beginning.{HasEach, MustHave}
use Rattle.std.proofs.Common.{List, arith, subst}
use Rattle.std.proofs.lemmas.List.{take_all}
use Rattle.diagram_declarations.specs.declared.decls.Symbol.{Symbol}
use Rattle.invariant_sets.proofs.first_pairs.add_pairs.Goals as goal

pub loop-number-init : goal.loop-number-init
loop-number-init c = record {
  apart = c.requires.apart;
  added = none_added c.args.first c.args.others.now c.args.pairs.now.items;
  each = All-nil (λ second. MustHave c.args.seen.state.now.held c.args.seen.after.now c.args.pairs.now.items (record { first = c.args.first; second = second }));
  kept = All-contains_itself c.args.pairs.now.items;
}

pub loop-number-preserved : goal.loop-number-preserved
loop-number-preserved c =
    let inv = c.loop-number.invariant in
    let h = c.args.seen.state.now.held in
    let more = grown h _ c.loop-number.pairs.items c.add_pair.new.pairs.items c.in_ok-add_pair.ensures.may in
    record {
      apart = apart_more h _ c.loop-number.pairs.items c.add_pair.new.pairs.items inv.apart c.in_ok-add_pair.ensures.may;
      added = added_more h _ c.args.others.now c.args.pairs.now.items c.loop-number.pairs.items c.add_pair.new.pairs.items inv.added
          (Contains-get_or c.args.others.now c.loop-number.number _ c.loop-number-test.true) c.in_ok-add_pair.ensures.may;
      each = All-more (λ second. MustHave h c.args.seen.after.now c.add_pair.new.pairs.items (record { first = c.args.first; second = second })) c.args.others.now c.loop-number.number _
          c.loop-number-test.true (each_on h c.args.seen.after.now c.loop-number.pairs.items c.add_pair.new.pairs.items c.args.first _ more inv.each) c.in_ok-add_pair.ensures.must;
      kept = grown_on c.args.pairs.now.items c.loop-number.pairs.items c.add_pair.new.pairs.items inv.kept more;
    }

pub returns-clause-each : goal.returns-clause-each
returns-clause-each c =
    subst (λ (ss : List Symbol). HasEach c.args.seen.state.now.held c.args.seen.after.now c.loop-number.pairs.items c.args.first ss)
    (take_all c.loop-number.number c.args.others.now (omega (arith, c.loop-number-test.false))) c.loop-number.invariant.each
