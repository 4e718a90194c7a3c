-- What was written is the text of a scan.
use Rattle.std.proofs.Common.{◌≡◌, ◌∙◌, ℕ, List, Result, Ok, Err, ap, drop, length, sym}
use Rattle.std.specs.Result.{IfErr, OnOk}
use Rattle.std.specs.Prelude.{◌==◌}
use Rattle.std.specs.List.{slice_split}
use Rattle.diagram_page.specs.Outline.{HasOutline, IsOnlyOutline}
use Rattle.diagram_page.specs.Picture.{Lines}
use Rattle.diagram_page.specs.declared.lines.Part.{Part}
use Rattle.diagram_program.specs.Program.{Drawing}
use Rattle.diagram_reader.specs.Reading.{IsProgram}
use Rattle.diagram_reader.specs.Titled.{without_aliases}
use Rattle.scan_cycle.specs.declared.seen.Mark.{Mark}
use Rattle.scan_cycle.specs.Programs.{diagram_of}
use Rattle.scan_cycle.specs.Seen.{AreMarks}
use Rattle.scan_cycle.specs.Standing.{Standing}
use Rattle.text_drawing.specs.declared.picture.Style.{Style}
use Rattle.text_drawing.specs.Showing.{IsDrawn, OneScan, state_after, whole_of}

-- a program has as many rungs as the outline of its text
pub rungs_of : (text : List ℕ) (p : Drawing) (place : ℕ) (parts ps : List Part) → IsProgram text (without_aliases p) → IsOnlyOutline text place parts → ps ≡ parts → length ps ≡ p.rungs
rungs_of text p place parts ps program only e =
    ap (λ (xs : List Part). length xs) (e ∙ sym (only program.page program.rest program.read program.reads).1) ∙ sym program.drawn.rungs

pub is_drawn : (style : Style) (s : OneScan) (place : ℕ) (parts ps : List Part) (marks ms : List Mark)
    (after : Standing) (lines : Lines) (rest : List ℕ) → HasOutline s.text place parts → after ≡ state_after s → ps ≡ parts → ms ≡ marks
    → AreMarks (diagram_of s.program) s.now s.inputs s.state.held marks → lines ≡ slice_split (λ b. b == 10) rest → rest ≡ drop place s.text
    → IsDrawn style s (whole_of style s.coil s.program after ps ms lines)
is_drawn style s place parts ps marks ms after lines rest outline ea ep em seen el er = record {
  place = place;
  parts = parts;
  marks = marks;
  outline = outline;
  seen = seen;
  text =
      ap (λ a. whole_of style s.coil s.program a ps ms lines) ea
      ∙ ap (λ x. whole_of style s.coil s.program (state_after s) x ms lines) ep
      ∙ ap (λ x. whole_of style s.coil s.program (state_after s) parts x lines) em
      ∙ ap (whole_of style s.coil s.program (state_after s) parts marks) (el ∙ ap (slice_split (λ b. b == 10)) er);
}

-- what holds in any case
pub ok_always : {T E : Type 0} {P : Type 0} (r : Result T E) → P → OnOk r P
ok_always (Ok x) p = p
ok_always (Err x) p = _

pub err_with : {T E : Type 0} {P Q : E → Type 0} (r : Result T E) → ((e : E) → P e → Q e) → IfErr r P → IfErr r Q
err_with (Ok x) f p = p
err_with (Err x) f p = f x p
