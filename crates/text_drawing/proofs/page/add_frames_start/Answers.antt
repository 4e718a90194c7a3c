use Rattle.std.proofs.Common.{◌++◌, [], refl, sym, append_assoc}
use Rattle.io_text.proofs.Sending.{sends_prefix, sends_last, sends_more, sends_none, sends_err}
use Rattle.text_drawing.specs.Page.{frames_start, frames_style, heading, page_begun}
use Rattle.text_drawing.proofs.page.add_frames_start.Goals as goal

pub returns-in_err-add_page_begun : goal.returns-in_err-add_page_begun
returns-in_err-add_page_begun g c = sends_err _ _ _ _ _ _ c.from_residual.ensures.0
    (let title = c.args.title.now in
    sends_prefix _ _ _ c.args.buffer.now c.args.buffer.now (frames_start title) [] (page_begun title) (frames_style ++ heading title) refl
    (sends_none _ c.args.buffer.now) c.in_err-add_page_begun.ensures)

pub returns-in_err-add : goal.returns-in_err-add
unfolding frames_style
returns-in_err-add g c = sends_err _ _ _ _ _ _ c.from_residual-in_err-add.ensures.0
    (let title = c.args.title.now in
    sends_prefix _ _ _ _ _ (frames_start title) (page_begun title) frames_style (heading title) refl c.in_ok-add_page_begun.ensures c.in_err-add.ensures)

pub returns : goal.returns
unfolding frames_style
returns g c =
    let title = c.args.title.now in
    sends_last _ _ _ _ _ _ (frames_start title) (page_begun title ++ frames_style) (heading title) _ (sym (append_assoc (page_begun title) frames_style (heading title)))
    (sends_more _ _ _ _ _ _ (page_begun title) frames_style c.in_ok-add_page_begun.ensures c.in_ok-add.ensures) c.add_heading.ensures
