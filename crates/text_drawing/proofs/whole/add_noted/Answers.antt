use Rattle.std.proofs.Common.{◌++◌, [], refl, sym, append_assoc}
use Rattle.io_text.proofs.Sending.{sends_prefix, sends_last, sends_more, sends_none, sends_err}
use Rattle.text_drawing.specs.Notes.{noted_lines}
use Rattle.text_drawing.specs.Pictures.{lines_drawn, of_picture}
use Rattle.text_drawing.specs.Showing.{end_of, head_of}
use Rattle.text_drawing.proofs.whole.add_noted.Goals as goal

pub returns-in_err-add_head : goal.returns-in_err-add_head
returns-in_err-add_head g c = sends_err _ _ _ _ _ _ c.from_residual.ensures.0
    (let head = head_of c.args.picture.style c.args.picture.program.now c.args.picture.after.now in
    let lines = of_picture (noted_lines (lines_drawn c.args.picture)) c.args.picture in
    let tail = end_of c.args.picture.style c.args.picture.coil c.args.picture.program.now c.args.picture.after.now c.args.picture.marks.now in
    sends_prefix _ _ _ c.args.buffer.now c.args.buffer.now (head ++ (lines ++ tail)) [] head (lines ++ tail) refl (sends_none _ c.args.buffer.now) c.in_err-add_head.ensures)

pub returns-in_err-add_noted_lines : goal.returns-in_err-add_noted_lines
returns-in_err-add_noted_lines g c = sends_err _ _ _ _ _ _ c.from_residual-in_err-add_noted_lines.ensures.0
    (let head = head_of c.args.picture.style c.args.picture.program.now c.args.picture.after.now in
    let lines = of_picture (noted_lines (lines_drawn c.args.picture)) c.args.picture in
    let tail = end_of c.args.picture.style c.args.picture.coil c.args.picture.program.now c.args.picture.after.now c.args.picture.marks.now in
    sends_prefix _ _ _ _ _ (head ++ (lines ++ tail)) head lines tail refl c.in_ok-add_head.ensures c.in_err-add_noted_lines.ensures)

pub returns : goal.returns
returns g c =
    let head = head_of c.args.picture.style c.args.picture.program.now c.args.picture.after.now in
    let lines = of_picture (noted_lines (lines_drawn c.args.picture)) c.args.picture in
    let tail = end_of c.args.picture.style c.args.picture.coil c.args.picture.program.now c.args.picture.after.now c.args.picture.marks.now in
    sends_last _ _ _ _ _ _ (head ++ (lines ++ tail)) (head ++ lines) tail _ (sym (append_assoc head lines tail))
    (sends_more _ _ _ _ _ _ head lines c.in_ok-add_head.ensures c.in_ok-add_noted_lines.ensures) c.add_end.ensures
