use Rattle.std.proofs.Common.{◌++◌, [], codes, refl}
use Rattle.io_text.proofs.Sending.{sends_prefix, sends_last, sends_none, sends_err}
use Rattle.text_drawing.specs.Page.{page_begun, page_start}
use Rattle.text_drawing.proofs.page.add_page_start.Goals as goal

pub returns-in_err-add_page_begun : goal.returns-in_err-add_page_begun
unfolding page_start
returns-in_err-add_page_begun g c = sends_err _ _ _ _ _ _ c.from_residual.ensures.0
    (let begun = page_begun (codes "Ladder diagram") in
    sends_prefix _ _ _ c.args.buffer.now c.args.buffer.now page_start [] begun (codes "</style>\n<pre>\n") refl (sends_none _ c.args.buffer.now) c.in_err-add_page_begun.ensures)

pub returns : goal.returns
unfolding page_start
returns g c =
    let begun = page_begun (codes "Ladder diagram") in
    sends_last _ _ _ _ _ _ page_start begun (codes "</style>\n<pre>\n") _ refl c.in_ok-add_page_begun.ensures c.add.ensures
