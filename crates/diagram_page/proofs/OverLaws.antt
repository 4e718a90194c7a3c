-- The table of what stands over the cells has it for each.
use Rattle.std.proofs.Common.{◌≡◌, ℕ, ◌*◌, ◌<◌, min, List, length, slice_index_or, refl, ◌∙◌, arith}
use Rattle.diagram_program.specs.declared.geometry.TheConstants.{RUNGS, ROWS, COLUMNS, PLACES}
use Rattle.diagram_declarations.specs.Decls.{Declared}
use Rattle.diagram_page.specs.declared.lines.Part.{Part}
use Rattle.diagram_page.specs.declared.operand.NameOver.{NameOver}
use Rattle.diagram_program.specs.Geometry.{place}
use Rattle.diagram_page.specs.Picture.{Lines}
use Rattle.diagram_page.specs.Texts.{text_over}
use Rattle.diagram_page.specs.Lines.{part_in, rung_of}
use Rattle.diagram_page.specs.Tables.{over_with, over_read, overs_of}
use Rattle.diagram_page.specs.Picture.{has_text}
use Rattle.diagram_page.specs.Operand.{word_in, refer_to, IsWordIn}
use Rattle.diagram_page.proofs.WordLaws.{word_found, word_one}
use Rattle.diagram_program.proofs.PlaceLaws.{length-all_places, all_places-drawn}

pub overs_count : (decls : Declared) (lines : Lines) (parts : List Part) → length (overs_of decls lines parts) ≡ PLACES * min (length parts) RUNGS
unfolding overs_of
overs_count decls lines parts = length-all_places (over_read decls lines parts) (min (length parts) RUNGS)

over_told : (decls : Declared) (lines : Lines) (parts : List Part) (d : NameOver) (k r c : ℕ) → k < length parts → k < RUNGS → r < ROWS → c < COLUMNS
    → slice_index_or (overs_of decls lines parts) (place k r c) d ≡ over_with decls (text_over (rung_of lines (part_in parts k)) r c)
unfolding overs_of over_read
over_told decls lines parts d k r c below few rows columns =
    all_places-drawn (over_read decls lines parts) (min (length parts) RUNGS) d k r c (omega (arith, below, few)) rows columns

pub over_at : (decls : Declared) (lines : Lines) (parts : List Part) (overs : List NameOver) (n : ℕ) (d : NameOver) (k r c : ℕ)
    → overs ≡ overs_of decls lines parts → n ≡ place k r c → k < length parts → k < RUNGS → r < ROWS → c < COLUMNS
    → slice_index_or overs n d ≡ over_with decls (text_over (rung_of lines (part_in parts k)) r c)
over_at decls lines parts overs n d k r c told here below few rows columns = rw (told, here) (over_told decls lines parts d k r c below few rows columns)

-- what these characters over a cell are is what is over it
pub read_over : (decls : Declared) (lines : Lines) (parts : List Part) (k r c : ℕ) (rung : Lines) (chars word : List ℕ) (over : NameOver)
    → rung ≡ rung_of lines (part_in parts k) → chars ≡ text_over rung r c → IsWordIn chars word → over ≡ record { written = has_text chars; name = refer_to decls word }
    → over ≡ over_read decls lines parts k r c
unfolding over_read
read_over decls lines parts k r c rung chars word over at is told here =
    here ∙ rw (word_one chars word (word_in chars) told (word_found chars), is, at) refl
