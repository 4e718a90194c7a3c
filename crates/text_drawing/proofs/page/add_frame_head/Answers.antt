use Rattle.std.proofs.Common.{[], refl}
use Rattle.io_text.proofs.Sending.{sends_prefix, sends_last, sends_none, sends_err}
use Rattle.text_drawing.specs.Page.{button, frame_head, page_above}
use Rattle.text_drawing.proofs.page.add_frame_head.Goals as goal

pub returns-in_err-add_button : goal.returns-in_err-add_button
returns-in_err-add_button g c = sends_err _ _ _ _ _ _ c.from_residual.ensures.0
    (let x = c.args.picture in
    sends_prefix _ _ _ c.args.buffer.now c.args.buffer.now (frame_head x.program.now x.after.now) [] (button x.after.now) (page_above x.program.now x.after.now) refl
    (sends_none _ c.args.buffer.now) c.in_err-add_button.ensures)

pub returns : goal.returns
returns g c =
    let x = c.args.picture in
    sends_last _ _ _ _ _ _ (frame_head x.program.now x.after.now) (button x.after.now) (page_above x.program.now x.after.now) _ refl
    c.in_ok-add_button.ensures c.add_page_above.ensures
