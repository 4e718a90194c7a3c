use Rattle.std.proofs.Common.{◌++◌, [], codes, refl}
use Rattle.io_text.proofs.Sending.{sends_prefix, sends_last, sends_none, sends_err}
use Rattle.text_power.specs.Why.{end_notes}
use Rattle.text_power.proofs.why.add_dead_notes.Goals as goal

pub returns-in_err-add : goal.returns-in_err-add
returns-in_err-add g c = sends_err _ _ _ _ _ _ c.from_residual.ensures.0
    (let head = codes ": no power, which ends at *)\n" in
    let notes = end_notes c.args.rung.program.now c.args.rung.marks.now c.args.rung.number c.args.at in
    sends_prefix _ _ _ c.args.buffer.now c.args.buffer.now (head ++ notes) [] head notes refl (sends_none _ c.args.buffer.now) c.in_err-add.ensures)

pub returns : goal.returns
returns g c =
    let head = codes ": no power, which ends at *)\n" in
    let notes = end_notes c.args.rung.program.now c.args.rung.marks.now c.args.rung.number c.args.at in
    sends_last _ _ _ _ _ _ (head ++ notes) head notes _ refl c.in_ok-add.ensures c.add_end_notes.ensures
