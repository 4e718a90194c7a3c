use Rattle.std.proofs.Common.{◌++◌, [], codes, refl}
use Rattle.std.specs.Prelude.{position}
use Rattle.io_text.proofs.Sending.{sends_prefix, sends_last, sends_none, sends_err}
use Rattle.text_drawing.specs.Marked.{is_line_of}
use Rattle.text_drawing.specs.Page.{drawn_in}
use Rattle.text_drawing.specs.Pictures.{lines_of}
use Rattle.text_drawing.proofs.page.add_drawn_line.Goals as goal

pub returns-in_err-add_drawn_in : goal.returns-in_err-add_drawn_in
returns-in_err-add_drawn_in g c = sends_err _ _ _ _ _ _ c.from_residual.ensures.0
    (let x = c.args.picture in
    let line = drawn_in x.parts.now x.marks.now (lines_of x) c.args.line (position (is_line_of c.args.line) x.parts.now) in
    sends_prefix _ _ _ c.args.buffer.now c.args.buffer.now (line ++ codes "\n") [] line (codes "\n") refl (sends_none _ c.args.buffer.now) c.in_err-add_drawn_in.ensures)

pub returns : goal.returns
returns g c =
    let x = c.args.picture in
    let line = drawn_in x.parts.now x.marks.now (lines_of x) c.args.line (position (is_line_of c.args.line) x.parts.now) in
    sends_last _ _ _ _ _ _ (line ++ codes "\n") line (codes "\n") _ refl c.in_ok-add_drawn_in.ensures c.add.ensures
