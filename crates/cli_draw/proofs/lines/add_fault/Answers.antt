use Rattle.std.proofs.Common.{[], refl}
use Rattle.io_text.proofs.Sending.{sends_err, sends_last, sends_none, sends_prefix}
use Rattle.cli_draw.specs.Lines.{explanation, fault_line, fault_text}
use Rattle.cli_draw.proofs.lines.add_fault.Goals as goal

pub returns-in_err-add_line : goal.returns-in_err-add_line
returns-in_err-add_line g c =
    let text = c.args.text.now in
    let why = c.args.why in
    let f = c.args.fault in
    let waited = c.args.buffer.now in
    sends_err _ _ _ _ _ (fault_text why text f) c.from_residual.ensures.0
    (sends_prefix _ _ _ waited waited (fault_text why text f) [] (fault_line text f) (explanation why text f) refl (sends_none _ waited) c.in_err-add_line.ensures)

pub returns : goal.returns
returns g c =
    let text = c.args.text.now in
    let why = c.args.why in
    let f = c.args.fault in
    sends_last _ _ _ _ _ _ (fault_text why text f) (fault_line text f) (explanation why text f) _ refl c.in_ok-add_line.ensures c.add_explanation.ensures
