use Rattle.std.proofs.Common.{◌∙◌, sym, map, false, arith, ◌≤◌, ◌<◌, length}
use Rattle.diagram_declarations.specs.Decls.{is_input}
use Rattle.scan_cycle.proofs.Giving.{passed, ended, taken, all_given}
use Rattle.scan_cycle.proofs.inputs.give_each.Goals as goal

pub loop-number-preserved-then-not-is_input_at : goal.loop-number-preserved-then-not-is_input_at
loop-number-preserved-then-not-is_input_at g c =
    let d = g.S.Operations.algebra.known false in
    record {
      within = c.loop-number.invariant.within;
      rest =
          passed (map is_input c.args.vars.now) _ c.loop-number.values c.loop-number.number d (omega arith) (sym c.is_input_at.ensures ∙ c.if-not-is_input_at.true)
          ∙ c.loop-number.invariant.rest;
    }

pub loop-number-preserved-then-inputs-next : goal.loop-number-preserved-then-inputs-next
loop-number-preserved-then-inputs-next g c =
    let d = g.S.Operations.algebra.known false in
    record {
      within = c.loop-number.invariant.within;
      rest =
          ended (map is_input c.args.vars.now) c.args.inputs.now c.loop-number.values c.loop-number.next c.loop-number.number d (omega arith) c.if-inputs-next.true
          ∙ c.loop-number.invariant.rest;
    }

pub loop-number-preserved : goal.loop-number-preserved
loop-number-preserved g c =
    let d = c.index-inputs-next.result in
    let more : c.loop-number.next < length c.args.inputs.now = c.if-inputs-next.false in
    record {
      within = omega (arith, more);
      rest =
          taken (map is_input c.args.vars.now) c.args.inputs.now c.loop-number.values c.loop-number.next c.loop-number.number d d (omega arith) more
          (sym c.is_input_at.ensures ∙ c.if-not-is_input_at.false) c.index-inputs-next.is
          ∙ c.loop-number.invariant.rest;
    }

pub returns : goal.returns
returns g c =
    let le : length c.loop-number.values ≤ c.loop-number.number = omega arith in
    sym (all_given (map is_input c.args.vars.now) _ c.loop-number.values c.loop-number.number le) ∙ c.loop-number.invariant.rest
