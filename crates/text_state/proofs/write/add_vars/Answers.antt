use Rattle.std.proofs.Common.{arith, subst, take_all}
use Rattle.io_text.specs.Text.{lines_text}
use Rattle.io_text.proofs.Lines.{line_prefix, line_more}
use Rattle.text_state.specs.StateText.{var_record}
use Rattle.text_state.specs.Parts.{each, var_records}
use Rattle.io_text.specs.Buffer.{SendsAll}
use Rattle.text_state.proofs.Written.{one_written, written_apart}
use Rattle.io_text.proofs.Sending.{sends_err}
use Rattle.text_state.proofs.write.add_vars.Goals as goal

pub loop-number-preserved : goal.loop-number-preserved
loop-number-preserved g c =
    line_more _ _ _ _ _ _ _ _ _ (one_written var_record c.args.vars.now c.args.state.now.held.values c.loop-number.number c.index-vars-number.result c.value.result
    c.loop-number-test.true c.index-vars-number.is c.value.ensures) c.loop-number.invariant c.in_ok-add_var.ensures

pub returns-in_err-add_var : goal.returns-in_err-add_var
returns-in_err-add_var g c = sends_err _ _ _ _ _ _ c.from_residual.ensures.0
    (line_prefix _ _ _ _ _ _ _ _ _ (written_apart var_record c.args.vars.now c.args.state.now.held.values c.loop-number.number c.index-vars-number.result c.value.result
    c.loop-number-test.true c.index-vars-number.is c.value.ensures) c.loop-number.invariant c.in_err-add_var.ensures)

pub returns : goal.returns
returns g c =
    let all = take_all c.loop-number.number c.args.vars.now (omega arith) in
    subst (λ xs. SendsAll (g.W.Sink.log c.args.writer.now) (g.W.Sink.log c.loop-number.writer) c.args.buffer.now c.loop-number.buffer (lines_text (each var_records xs c.args.state.now.held.values)))
    all c.loop-number.invariant
