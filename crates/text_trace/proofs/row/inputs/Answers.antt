use Rattle.std.proofs.Common.{◌∙◌, ◌+◌, ◌∷◌, [], Some, ap, arith, sym}
use Rattle.std.proofs.lemmas.List.{length-append}
use Rattle.std.proofs.lemmas.List.Sums.{count_by_more_no, count_by_more_yes}
use Rattle.diagram_declarations.specs.Decls.{is_input}
use Rattle.text_trace.proofs.Lists.{mark_at}
use Rattle.text_trace.proofs.Picked.{picked_all, picked_more, picked_none}
use Rattle.text_trace.proofs.row.inputs.Goals as goal

pub loop-number-preserved-then-not-is_input : goal.loop-number-preserved-then-not-is_input
loop-number-preserved-then-not-is_input c =
    let inv = c.loop-number.invariant in
    let vars = c.args.vars.now in
    let n = c.loop-number.number in
    let x = c.index-vars-number.result in
    let lacks = sym c.is_input.ensures ∙ c.if-not-is_input.true in
    let mark = mark_at is_input vars n x c.loop-number-test.true c.index-vars-number.is ∙ ap Some lacks in (
      picked_none is_input vars n _ c.loop-number-test.true mark inv.0,
      inv.1 ∙ sym (count_by_more_no is_input vars n x c.loop-number-test.true (ap is_input (sym c.index-vars-number.is) ∙ lacks)),
    )

pub loop-number-preserved : goal.loop-number-preserved
loop-number-preserved c =
    let inv = c.loop-number.invariant in
    let vars = c.args.vars.now in
    let n = c.loop-number.number in
    let x = c.index-vars-number.result in
    let holds = sym c.is_input.ensures ∙ c.if-not-is_input.false in
    let mark = mark_at is_input vars n x c.loop-number-test.true c.index-vars-number.is ∙ ap Some holds in
    let more = count_by_more_yes is_input vars n x c.loop-number-test.true (ap is_input (sym c.index-vars-number.is) ∙ holds) in
    rw c.in_ok-push.ensures.items (
      picked_more is_input vars n c.loop-number.numbers.items c.loop-number-test.true mark inv.0,
      length-append c.loop-number.numbers.items (n ∷ []) ∙ ap (λ k. k + 1) inv.1 ∙ sym more,
    )

pub returns-clause-picked : goal.returns-clause-picked
returns-clause-picked c = picked_all is_input c.args.vars.now c.loop-number.number _ (omega arith) c.loop-number.invariant.0
