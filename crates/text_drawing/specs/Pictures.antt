-- Private: what the code holds while it writes a drawing.
use Rattle.std.specs.Prelude.{◌≡◌, ◌≤◌, ◌<◌, ◌^◌, ◌++◌, ℕ, ℤ, List, codes, decimal, length, map}
use Rattle.std.specs.Fmt.{signed_decimal}
use Rattle.diagram_program.specs.declared.geometry.TheConstants.{RUNGS}
use Rattle.diagram_page.specs.declared.lines.Part.{Part}
use Rattle.diagram_page.specs.Picture.{Lines}
use Rattle.diagram_program.specs.Program.{Drawing}
use Rattle.scan_cycle.specs.Programs.{diagram_of}
use Rattle.scan_cycle.specs.Seen.{AreMarks}
use Rattle.scan_cycle.specs.Standing.{Standing}
use Rattle.scan_cycle.specs.declared.seen.Mark.{Mark}
use Rattle.text_drawing.specs.declared.look.Look.{Look}
use Rattle.text_drawing.specs.declared.look.RungLine.{RungLine}
use Rattle.text_drawing.specs.declared.picture.Picture.{Picture}
use Rattle.text_drawing.specs.Page.{look_at}
use Rattle.text_drawing.specs.Showing.{OneScan, drawn_of, state_after}

abbrev pub lines_of : Picture → Lines
lines_of x = map (λ l. l.now) x.lines.now

-- What a definition says of the parts of a picture.
abbrev pub of_picture : {A : Type 0} → (Drawing → Standing → List Part → List Mark → Lines → A) → Picture → A
of_picture f x = f x.program.now x.after.now x.parts.now x.marks.now (lines_of x)

-- There are as many rungs among the lines as the program has, and no more than can be numbered.
pub record Fits (x : Picture) : Type 0 where
  pub same : length x.parts.now ≡ x.program.now.rungs
  pub few : length x.parts.now ≤ RUNGS
  pub small : length x.lines.now < 2 ^ 59

-- How the lines of a picture are drawn.
abbrev pub lines_drawn : Picture → ℕ → List ℕ
lines_drawn x n = drawn_of x.style x.parts.now x.marks.now (lines_of x) n

-- How the characters of a line look.
abbrev pub looks_of : RungLine → ℕ → Look
looks_of x at = look_at x.marks.now x.rung x.line x.text.now at

-- A scan leaves this state and these marks.
pub record IsSeen (s : OneScan) (after : Standing) (marks : List Mark) : Type 0 where
  pub left : after ≡ state_after s
  pub seen : AreMarks (diagram_of s.program) s.now s.inputs s.state.held marks

-- How far a timer is that runs, and a counter.
abbrev pub timer_note : List ℕ → ℕ → ℕ → List ℕ
timer_note name preset elapsed =
    codes "(* " ++ (name ++ (codes ".ET " ++ (decimal elapsed ++ (codes " of " ++ (decimal preset ++ codes " ms *)\n")))))

abbrev pub counter_note : List ℕ → ℕ → ℤ → List ℕ
counter_note name preset value =
    codes "(* " ++ (name ++ (codes ".CV " ++ (signed_decimal value ++ (codes " of " ++ (decimal preset ++ codes " *)\n")))))
