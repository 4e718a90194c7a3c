use Rattle.std.proofs.Common.{◌++◌, ◌%◌, ◌/◌, [], refl, ap, sym}
use Rattle.diagram_program.specs.declared.geometry.TheConstants.{ROWS}
use Rattle.io_text.proofs.Sending.{sends_prefix, sends_last, sends_none, sends_err}
use Rattle.scan_cycle.specs.declared.seen.Mark.{Mark}
use Rattle.text_power.specs.Show.{mark_in}
use Rattle.text_power.specs.Why.{coil_head, power_notes}
use Rattle.text_power.proofs.why.add_coil_notes.Goals as goal

pub returns-in_err-add_coil_head : goal.returns-in_err-add_coil_head
returns-in_err-add_coil_head g c = sends_err _ _ _ _ _ _ c.from_residual.ensures.0
    (let x = c.args.rung in
    let head = coil_head x.program.now c.args.var x.number c.args.at in
    let notes = power_notes x.program.now x.marks.now x.number c.args.at (mark_in x.marks.now x.number (c.args.at % ROWS) (c.args.at / ROWS)) in
    sends_prefix _ _ _ c.args.buffer.now c.args.buffer.now (head ++ notes) [] head notes refl (sends_none _ c.args.buffer.now) c.in_err-add_coil_head.ensures)

pub returns : goal.returns
returns g c =
    let x = c.args.rung in
    let head = coil_head x.program.now c.args.var x.number c.args.at in
    let notes = λ (m : Mark). power_notes x.program.now x.marks.now x.number c.args.at m in
    sends_last _ _ _ _ _ _ (head ++ notes (mark_in x.marks.now x.number (c.args.at % ROWS) (c.args.at / ROWS))) head (notes c.mark_in-mark.result) _
    (ap (λ m. head ++ notes m) (sym c.mark_in-mark.ensures)) c.in_ok-add_coil_head.ensures c.add_power_notes.ensures
