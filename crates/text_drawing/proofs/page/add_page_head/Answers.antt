use Rattle.std.proofs.Common.{[], refl}
use Rattle.io_text.proofs.Sending.{sends_prefix, sends_last, sends_none, sends_err}
use Rattle.text_drawing.specs.Page.{page_above, page_head, page_start}
use Rattle.text_drawing.proofs.page.add_page_head.Goals as goal

pub returns-in_err-add_page_start : goal.returns-in_err-add_page_start
returns-in_err-add_page_start g c = sends_err _ _ _ _ _ _ c.from_residual.ensures.0
    (let x = c.args.picture in
    sends_prefix _ _ _ c.args.buffer.now c.args.buffer.now (page_head x.program.now x.after.now) [] page_start (page_above x.program.now x.after.now) refl
    (sends_none _ c.args.buffer.now) c.in_err-add_page_start.ensures)

pub returns : goal.returns
returns g c =
    let x = c.args.picture in
    sends_last _ _ _ _ _ _ (page_head x.program.now x.after.now) page_start (page_above x.program.now x.after.now) _ refl
    c.in_ok-add_page_start.ensures c.add_page_above.ensures
