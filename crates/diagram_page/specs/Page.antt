-- What a drawing is read from, and what is where on it. Rungs, rows and columns are counted from 0.
use Rattle.std.specs.Prelude.{◌≡◌, ◌↔◌, ℕ, ◌+◌, ◌-◌, ◌*◌, ◌<◌, min, false, List, length, map, slice_index_or, Option, Some, None, option_map}
use Rattle.diagram_declarations.specs.Decls.{Declared}
use Rattle.diagram_page.specs.declared.form.Form.{Form}
use Rattle.diagram_page.specs.declared.lines.Part.{Part}
use Rattle.diagram_page.specs.declared.operand.Reference.{Reference}
use Rattle.diagram_program.specs.Geometry.{place}
use Rattle.diagram_page.specs.Picture.{Lines, text_at}
use Rattle.diagram_page.specs.Lines.{Piece, ArePieces, lines_in, IsUnclosed, AreRungs, part_in, rung_of}
use Rattle.diagram_page.specs.Form.{IsFormOf}
use Rattle.diagram_program.specs.declared.geometry.TheConstants.{RUNGS, ROWS, COLUMNS, PLACES}
use Rattle.diagram_page.specs.Gap.{Labels, label_before}
use Rattle.diagram_page.specs.Operand.{word_in, refer_to, instance_on}

-- unclosed: the line where a comment begins that never ends. parts: the rungs, each with its gap. forms: what the cells are,
-- by rung, column and row.
pub record Page : Type 0 where
  pub decls : Declared
  pub lines : Lines
  pub unclosed : Option ℕ
  pub parts : List Part
  pub forms : List (Option Form)

-- the lines of the rung k
abbrev pub rung_at : Page → ℕ → Lines
rung_at page k = rung_of page.lines (part_in page.parts k)

-- the labels of the rungs of these parts
abbrev pub labels_of : Lines → List Part → Labels
labels_of lines parts = map (λ (p : Part). label_before lines p.from (p.start - p.from)) parts

-- the form of a cell, and what the text over it names
abbrev pub form_at : Page → ℕ → ℕ → ℕ → Option Form
form_at page k r c = slice_index_or page.forms (place k r c) None

abbrev pub name_over : Page → ℕ → ℕ → ℕ → Option Reference
name_over page k r c = refer_to page.decls (word_in (text_at (rung_at page k) (2 * r) c))

-- The instance that the block at a place is.
unfoldable pub instance_at : Page → ℕ → ℕ → ℕ → Option ℕ
instance_at page k r c = instance_on (form_at page k r c) (option_map (λ x. x.symbol) (name_over page k r c))

-- The text after END_VAR reads as this page. The cells of the first hundred rungs have forms: a page with more rungs is refused.
pub record ReadsAs (text : List ℕ) (page : Page) : Type 0 where
  pub pieces : List Piece
  pub cut : ArePieces false pieces text
  pub lines : page.lines ≡ lines_in pieces
  pub unclosed : (line : ℕ) → (page.unclosed ≡ Some line) ↔ IsUnclosed pieces line
  pub rungs : AreRungs page.lines 0 page.parts
  pub count : length page.forms ≡ PLACES * min (length page.parts) RUNGS
  pub forms : (k r c : ℕ) → k < min (length page.parts) RUNGS → r < ROWS → c < COLUMNS
      → IsFormOf (text_at (rung_at page k) (2 * r + 1) c) (form_at page k r c)
