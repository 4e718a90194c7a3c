use Rattle.std.proofs.Common.{◌++◌, [], refl, sym, append_assoc}
use Rattle.io_text.proofs.Sending.{sends_prefix, sends_last, sends_more, sends_none, sends_err}
use Rattle.text_drawing.specs.Page.{escaped_line, page_begun, page_opening, page_style}
use Rattle.text_drawing.proofs.page.add_page_begun.Goals as goal

pub returns-in_err-add : goal.returns-in_err-add
unfolding page_opening
returns-in_err-add g c = sends_err _ _ _ _ _ _ c.from_residual.ensures.0
    (let title = escaped_line c.args.title.now in
    sends_prefix _ _ _ c.args.buffer.now c.args.buffer.now (page_begun c.args.title.now) [] page_opening (title ++ page_style) refl (sends_none _ c.args.buffer.now) c.in_err-add.ensures)

pub returns-in_err-add_escaped_line : goal.returns-in_err-add_escaped_line
unfolding page_opening
returns-in_err-add_escaped_line g c = sends_err _ _ _ _ _ _ c.from_residual-in_err-add_escaped_line.ensures.0
    (let title = escaped_line c.args.title.now in
    sends_prefix _ _ _ _ _ (page_begun c.args.title.now) page_opening title page_style refl c.in_ok-add.ensures c.in_err-add_escaped_line.ensures)

pub returns : goal.returns
unfolding page_opening page_style
returns g c =
    let title = escaped_line c.args.title.now in
    sends_last _ _ _ _ _ _ (page_begun c.args.title.now) (page_opening ++ title) page_style _ (sym (append_assoc page_opening title page_style))
    (sends_more _ _ _ _ _ _ page_opening title c.in_ok-add.ensures c.in_ok-add_escaped_line.ensures) c.add-2.ensures
