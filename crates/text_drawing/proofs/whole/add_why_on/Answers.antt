use Rattle.std.proofs.Common.{◌++◌, [], codes, refl}
use Rattle.io_text.proofs.Sending.{sends_prefix, sends_last, sends_none, sends_err}
use Rattle.text_power.specs.Why.{why}
use Rattle.text_drawing.proofs.whole.add_why_on.Goals as goal

pub returns-in_err-add : goal.returns-in_err-add
returns-in_err-add g c = sends_err _ _ _ _ _ _ c.from_residual.ensures.0
    (let notes = why c.args.picture.program.now c.args.picture.marks.now c.args.var in
    sends_prefix _ _ _ c.args.buffer.now c.args.buffer.now (codes "\n" ++ notes) [] (codes "\n") notes refl (sends_none _ c.args.buffer.now) c.in_err-add.ensures)

pub returns : goal.returns
returns g c =
    let notes = why c.args.picture.program.now c.args.picture.marks.now c.args.var in
    sends_last _ _ _ _ _ _ (codes "\n" ++ notes) (codes "\n") notes _ refl c.in_ok-add.ensures c.add_why.ensures
