use Rattle.std.proofs.Common.{◌∙◌, ◌-◌, ap, ap₂}
use Rattle.text_drawing.specs.Page.{drawn_in, drawn_line, escaped_line}
use Rattle.text_drawing.specs.Pictures.{lines_of}
use Rattle.text_drawing.proofs.Gets.{line_read, start_read}
use Rattle.text_drawing.proofs.Noted.{sends_as}
use Rattle.text_drawing.proofs.page.add_drawn_in.Goals as goal

pub returns-in-Some : goal.returns-in-Some
returns-in-Some g c =
    let x = c.args.picture in
    sends_as _ _ _ _ _ _ (drawn_in x.parts.now x.marks.now (lines_of x) c.args.line _)
    (ap₂ (λ s t. drawn_line x.marks.now c.in-Some.rung (c.args.line - s) t) (start_read x.parts.now c.in-Some.rung _ c.in-Some.ensures.within.0)
    (line_read x.lines.now c.args.line _ c.requires.line)
    ∙ ap (drawn_in x.parts.now x.marks.now (lines_of x) c.args.line) c.in-Some.ensures.value)
    c.add_rung_line.ensures

pub returns-in-None : goal.returns-in-None
returns-in-None g c =
    let x = c.args.picture in
    sends_as _ _ _ _ _ _ (drawn_in x.parts.now x.marks.now (lines_of x) c.args.line _)
    (ap escaped_line (line_read x.lines.now c.args.line _ c.requires.line) ∙ ap (drawn_in x.parts.now x.marks.now (lines_of x) c.args.line) c.in-None.ensures.value)
    c.add_escaped_line.ensures
