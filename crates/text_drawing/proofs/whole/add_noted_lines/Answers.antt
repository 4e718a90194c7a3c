use Rattle.std.proofs.Common.{◌<◌, ℕ, List, length, refl, arith}
use Rattle.std.specs.Borrow.{Bor}
use Rattle.std.proofs.lemmas.List.{length-map}
use Rattle.io_text.proofs.Sending.{sends_err}
use Rattle.text_drawing.specs.Notes.{kept_line}
use Rattle.text_drawing.specs.Pictures.{lines_drawn, lines_of, of_picture}
use Rattle.text_power.proofs.Each.{cut_off, more, none_yet}
use Rattle.text_drawing.proofs.whole.add_noted_lines.Goals as goal

abbrev now : Bor (List ℕ) → List ℕ
now f = f.now

pub loop-line-init : goal.loop-line-init
loop-line-init g c = none_yet _ _ _

pub returns-in_err-add_kept_line : goal.returns-in_err-add_kept_line
returns-in_err-add_kept_line g c = sends_err _ _ _ _ _ _ c.from_residual.ensures.0
    (let inside : c.loop-line.line < length (lines_of c.args.picture) = omega (arith, c.loop-line-test.true, length-map c.args.picture.lines.now now) in
    cut_off (of_picture (kept_line (lines_drawn c.args.picture)) c.args.picture) (length (lines_of c.args.picture)) c.loop-line.line _ _ _ _ _ _ inside refl c.loop-line.invariant
    c.in_err-add_kept_line.ensures)

pub loop-line-preserved : goal.loop-line-preserved
loop-line-preserved g c = more (of_picture (kept_line (lines_drawn c.args.picture)) c.args.picture) c.loop-line.line _ _ _ _ _ _ _ refl c.loop-line.invariant c.in_ok-add_kept_line.ensures
