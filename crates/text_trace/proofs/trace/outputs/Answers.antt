use Rattle.std.proofs.Common.{◌∙◌, Some, ap, arith, sym}
use Rattle.text_trace.specs.Trace.{is_output}
use Rattle.text_trace.proofs.Lists.{mark_at}
use Rattle.text_trace.proofs.Picked.{picked_all, picked_more, picked_none}
use Rattle.text_trace.proofs.trace.outputs.Goals as goal

pub loop-number-preserved-then-not-is_output : goal.loop-number-preserved-then-not-is_output
loop-number-preserved-then-not-is_output c =
    let vars = c.args.vars.now in
    let n = c.loop-number.number in
    let x = c.index-vars-number.result in
    let mark = mark_at is_output vars n x c.loop-number-test.true c.index-vars-number.is ∙ ap Some (sym c.is_output.ensures ∙ c.if-not-is_output.true) in
    picked_none is_output vars n _ c.loop-number-test.true mark c.loop-number.invariant

pub loop-number-preserved : goal.loop-number-preserved
loop-number-preserved c =
    let vars = c.args.vars.now in
    let n = c.loop-number.number in
    let x = c.index-vars-number.result in
    let mark = mark_at is_output vars n x c.loop-number-test.true c.index-vars-number.is ∙ ap Some (sym c.is_output.ensures ∙ c.if-not-is_output.false) in
    rw c.in_ok-push.ensures.items (picked_more is_output vars n c.loop-number.numbers.items c.loop-number-test.true mark c.loop-number.invariant)

pub returns : goal.returns
returns c = picked_all is_output c.args.vars.now c.loop-number.number _ (omega arith) c.loop-number.invariant
