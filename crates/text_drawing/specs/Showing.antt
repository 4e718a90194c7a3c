-- The drawing of a program text with the power flow of one scan.
use Rattle.std.specs.Prelude.{◌≡◌, ◌==◌, ◌++◌, ℕ, Bool, List, [], Option, None, Some, codes, drop}
use Rattle.std.specs.List.{slice_split}
use Rattle.diagram_program.specs.Bytes.{line_feed}
use Rattle.diagram_page.specs.Outline.{HasOutline}
use Rattle.diagram_page.specs.Picture.{Lines}
use Rattle.diagram_page.specs.declared.lines.Part.{Part}
use Rattle.diagram_program.specs.Program.{Drawing}
use Rattle.scan_cycle.specs.Programs.{diagram_of}
use Rattle.scan_cycle.specs.Scan.{after_scan}
use Rattle.scan_cycle.specs.Seen.{AreMarks}
use Rattle.scan_cycle.specs.Standing.{Standing}
use Rattle.scan_cycle.specs.declared.seen.Mark.{Mark}
use Rattle.io_text.specs.Log.{PutsAll, PutsPrefix, WriteLog}
use Rattle.text_drawing.specs.declared.fault.ShowFault.{ShowFault}
use Rattle.text_drawing.specs.declared.fault.ShowFault.TheVariants.{Memory, Write}
use Rattle.text_drawing.specs.declared.picture.Style.{Style}
use Rattle.text_drawing.specs.declared.picture.Style.TheVariants.{Marked, MarkedFrame, Page, PageFrame}
use Rattle.text_drawing.specs.declared.showing.Scan.{Scan}
use Rattle.text_drawing.specs.Notes.{head_line, noted_lines, tail_line}
use Rattle.text_drawing.specs.Page.{drawn_whole, frame_head, frame_tail, frames_start, page_head, page_tail}
use Rattle.text_drawing.specs.Marked.{shown_whole}
use Rattle.text_power.specs.Why.{why}

-- What is shown: a text and its program, the state before the scan, the inputs and the moment of the scan, and where that is asked, the
-- variable of whose coils it is written why they have power, or none.
pub record OneScan : Type 0 where
  pub text : List ℕ
  pub program : Drawing
  pub state : Standing
  pub inputs : List Bool
  pub now : ℕ
  pub coil : Option ℕ

abbrev pub one_scan : List ℕ → Drawing → Standing → List Bool → ℕ → Option ℕ → OneScan
one_scan text program state inputs now coil = record {
  text = text;
  program = program;
  state = state;
  inputs = inputs;
  now = now;
  coil = coil;
}

-- the state after the scan
abbrev pub state_after : OneScan → Standing
state_after s = record {
  held = after_scan (diagram_of s.program) s.now s.inputs s.state.held;
  kinds = s.state.kinds;
  moment = s.now;
}

-- a scan from this state
abbrev pub scan_of : Scan → Standing → OneScan
scan_of s state = one_scan s.text.now s.program.now state s.inputs.now s.moment s.coil

-- ---- by style

-- As text, marks take the place of characters; as HTML, characters stand in elements.
abbrev pub drawn_of : Style → List Part → List Mark → Lines → ℕ → List ℕ
drawn_of Marked parts marks lines n = shown_whole parts marks lines n
drawn_of MarkedFrame parts marks lines n = shown_whole parts marks lines n
drawn_of Page parts marks lines n = drawn_whole parts marks lines n
drawn_of PageFrame parts marks lines n = drawn_whole parts marks lines n

abbrev pub head_of : Style → Drawing → Standing → List ℕ
head_of Marked p after = head_line p after
head_of MarkedFrame p after = head_line p after
head_of Page p after = page_head p after
head_of PageFrame p after = frame_head p after

-- An empty line stands between two texts.
abbrev pub tail_of : Style → Drawing → Standing → List ℕ
tail_of Marked p after = tail_line p after (codes " *)\n")
tail_of MarkedFrame p after = tail_line p after (codes " *)\n\n")
tail_of Page p after = page_tail p after
tail_of PageFrame p after = frame_tail p after

-- What stands before the drawings of a film that has this name: only pictures of a page need it.
abbrev pub film_start : Style → List ℕ → List ℕ
film_start Marked title = []
film_start MarkedFrame title = []
film_start Page title = []
film_start PageFrame title = frames_start title

-- Why the coils of a variable have power, or none.
abbrev pub why_on : Drawing → List Mark → ℕ → List ℕ
why_on p marks var = codes "\n" ++ why p marks var

-- the same where it is asked
abbrev pub why_of : Option ℕ → Drawing → List Mark → List ℕ
why_of None p marks = []
why_of (Some var) p marks = why_on p marks var

-- What is below the lines.
abbrev pub end_of : Style → Option ℕ → Drawing → Standing → List Mark → List ℕ
end_of style coil p after marks = why_of coil p marks ++ tail_of style p after

-- What is above, the lines with their notes, and what is below.
abbrev pub whole_of : Style → Option ℕ → Drawing → Standing → List Part → List Mark → Lines → List ℕ
whole_of style coil p after parts marks lines =
    head_of style p after ++ (noted_lines (drawn_of style parts marks lines) p after parts marks lines ++ end_of style coil p after marks)

-- ---- what is written

-- The drawing of a scan: the lines behind END_VAR, those of rungs with the power flow of the scan, and its notes.
pub record IsDrawn (style : Style) (s : OneScan) (drawn : List ℕ) : Type 0 where
  pub place : ℕ
  pub parts : List Part
  pub marks : List Mark
  pub outline : HasOutline s.text place parts
  pub seen : AreMarks (diagram_of s.program) s.now s.inputs s.state.held marks
  pub text : drawn ≡ whole_of style s.coil s.program (state_after s) parts marks (slice_split (λ b. b == line_feed) (drop place s.text))

-- The drawing was written.
pub record Written (style : Style) (s : OneScan) (old new : WriteLog) : Type 0 where
  pub text : List ℕ
  pub is : IsDrawn style s text
  pub wrote : PutsAll old new text

-- A prefix of it was written before the writer failed.
pub record WrittenInPart (style : Style) (s : OneScan) (old new : WriteLog) : Type 0 where
  pub text : List ℕ
  pub is : IsDrawn style s text
  pub wrote : PutsPrefix old new text

-- Out of memory the state stays as it was; where the writer failed, it is the one after the scan.
abbrev pub IsLeft : OneScan → Standing → ShowFault → Type 0
IsLeft s left Memory = left ≡ s.state
IsLeft s left Write = left ≡ state_after s

-- Out of memory nothing is written.
abbrev pub Fails : Style → OneScan → WriteLog → WriteLog → ShowFault → Type 0
Fails style s old new Memory = new ≡ old
Fails style s old new Write = WrittenInPart style s old new
