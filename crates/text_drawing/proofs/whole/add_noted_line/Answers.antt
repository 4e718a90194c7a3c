use Rattle.std.proofs.Common.{◌++◌, [], refl}
use Rattle.std.specs.Prelude.{position}
use Rattle.io_text.proofs.Sending.{sends_prefix, sends_last, sends_none, sends_err}
use Rattle.text_drawing.specs.Marked.{is_line_of}
use Rattle.text_drawing.specs.Notes.{notes_behind}
use Rattle.text_drawing.specs.Pictures.{lines_drawn}
use Rattle.text_drawing.proofs.whole.add_noted_line.Goals as goal

pub returns-in_err-add_line : goal.returns-in_err-add_line
returns-in_err-add_line g c = sends_err _ _ _ _ _ _ c.from_residual.ensures.0
    (let x = c.args.picture in
    let line = lines_drawn x c.args.line in
    let notes = notes_behind x.program.now x.after.now x.parts.now x.marks.now c.args.line (position (is_line_of c.args.line) x.parts.now) in
    sends_prefix _ _ _ c.args.buffer.now c.args.buffer.now (line ++ notes) [] line notes refl (sends_none _ c.args.buffer.now) c.in_err-add_line.ensures)

pub returns : goal.returns
returns g c =
    let x = c.args.picture in
    let line = lines_drawn x c.args.line in
    let notes = notes_behind x.program.now x.after.now x.parts.now x.marks.now c.args.line (position (is_line_of c.args.line) x.parts.now) in
    sends_last _ _ _ _ _ _ (line ++ notes) line notes _ refl c.in_ok-add_line.ensures c.add_notes_behind.ensures
