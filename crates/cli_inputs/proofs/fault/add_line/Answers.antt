use Rattle.std.proofs.Common.{[], refl}
use Rattle.io_text.proofs.Sending.{sends_err, sends_last, sends_none, sends_prefix}
use Rattle.cli_inputs.specs.FaultLine.{fault_words, lead, line_by}
use Rattle.cli_inputs.proofs.fault.add_line.Goals as goal

pub returns-in_err-add : goal.returns-in_err-add
returns-in_err-add g c =
    let side = c.args.side in
    let f = c.args.fault.now in
    sends_err _ _ _ _ _ (line_by side f) c.from_residual.ensures.0
    (sends_prefix _ _ _ c.args.buffer.now c.args.buffer.now (line_by side f) [] (lead side) (fault_words f) refl (sends_none _ c.args.buffer.now)
    (rw c.lead.ensures at c.in_err-add.ensures))

pub returns : goal.returns
returns g c =
    let side = c.args.side in
    let f = c.args.fault.now in
    sends_last _ _ _ _ _ _ (line_by side f) (lead side) (fault_words f) _ refl (rw c.lead.ensures at c.in_ok-add.ensures) c.add_words.ensures
