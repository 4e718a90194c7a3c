use Rattle.std.proofs.Common.{◌++◌, [], refl}
use Rattle.io_text.proofs.Sending.{sends_err, sends_last, sends_none, sends_prefix}
use Rattle.cli_draw.specs.Lines.{fault_near}
use Rattle.cli_draw.specs.Sentences.{sentence}
use Rattle.cli_draw.proofs.lines.add_reason.Goals as goal

pub returns-in_err-add_sentence : goal.returns-in_err-add_sentence
returns-in_err-add_sentence g c =
    let near = fault_near c.args.text.now c.args.fault in
    let why = sentence c.args.fault in
    let waited = c.args.buffer.now in
    sends_err _ _ _ _ _ (why ++ near) c.from_residual.ensures.0
    (sends_prefix _ _ _ waited waited (why ++ near) [] why near refl (sends_none _ waited) c.in_err-add_sentence.ensures)

pub returns : goal.returns
returns g c =
    let near = fault_near c.args.text.now c.args.fault in
    let why = sentence c.args.fault in
    sends_last _ _ _ _ _ _ (why ++ near) why near _ refl c.in_ok-add_sentence.ensures c.add_fault_near.ensures
