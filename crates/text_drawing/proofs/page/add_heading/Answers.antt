use Rattle.std.proofs.Common.{◌++◌, [], codes, refl, sym, append_assoc}
use Rattle.io_text.proofs.Sending.{sends_prefix, sends_last, sends_more, sends_none, sends_err}
use Rattle.text_drawing.specs.Page.{escaped_line, heading}
use Rattle.text_drawing.proofs.page.add_heading.Goals as goal

pub returns-in_err-add : goal.returns-in_err-add
returns-in_err-add g c = sends_err _ _ _ _ _ _ c.from_residual.ensures.0
    (let title = escaped_line c.args.title.now in
    sends_prefix _ _ _ c.args.buffer.now c.args.buffer.now (heading c.args.title.now) [] (codes "<h1>") (title ++ codes "</h1>\n") refl
    (sends_none _ c.args.buffer.now) c.in_err-add.ensures)

pub returns-in_err-add_escaped_line : goal.returns-in_err-add_escaped_line
returns-in_err-add_escaped_line g c = sends_err _ _ _ _ _ _ c.from_residual-in_err-add_escaped_line.ensures.0
    (let title = escaped_line c.args.title.now in
    sends_prefix _ _ _ _ _ (heading c.args.title.now) (codes "<h1>") title (codes "</h1>\n") refl c.in_ok-add.ensures c.in_err-add_escaped_line.ensures)

pub returns : goal.returns
returns g c =
    let title = escaped_line c.args.title.now in
    sends_last _ _ _ _ _ _ (heading c.args.title.now) (codes "<h1>" ++ title) (codes "</h1>\n") _ (sym (append_assoc (codes "<h1>") title (codes "</h1>\n")))
    (sends_more _ _ _ _ _ _ (codes "<h1>") title c.in_ok-add.ensures c.in_ok-add_escaped_line.ensures) c.add-2.ensures
