-- The page that is read is the page of the text, and the text reads as no other.
use Rattle.std.proofs.Common.{◌≡◌, ℕ, ◌*◌, ◌<◌, min, List, length, slice_index_or, None, sym, ap, subst, ◌∙◌}
use Rattle.diagram_program.specs.declared.geometry.TheConstants.{RUNGS, ROWS, COLUMNS, PLACES}
use Rattle.diagram_declarations.specs.Decls.{Declared}
use Rattle.diagram_page.specs.Lines.{AreRungs, part_in, rung_of}
use Rattle.diagram_page.specs.declared.lines.Part.{Part}
use Rattle.diagram_program.specs.Geometry.{place}
use Rattle.diagram_page.specs.Picture.{Lines}
use Rattle.diagram_page.specs.Texts.{cell_text}
use Rattle.diagram_page.specs.Form.{IsFormOf}
use Rattle.diagram_page.specs.Page.{Page, ReadsAs}
use Rattle.diagram_page.specs.ReadLines.{page, lines_of, unclosed_line, parts_of, form_read, forms_of, page_with, page_of}
use Rattle.diagram_page.proofs.FormLaws.{forms_told, form_of_one, told_one}
use Rattle.diagram_page.proofs.CutLaws.{lines_are}
use Rattle.diagram_page.proofs.UnclosedLaws.{unclosed_is}
use Rattle.diagram_page.proofs.CutText.{pieces_of}
use Rattle.diagram_page.proofs.PartLaws.{parts_are, parts_same}
use Rattle.diagram_program.proofs.PlaceLaws.{length-all_places, all_places-drawn, same_list}

forms_right : (lines : Lines) (parts : List Part) (k r c : ℕ) → k < min (length parts) RUNGS → r < ROWS → c < COLUMNS
    → IsFormOf (cell_text (rung_of lines (part_in parts k)) r c) (slice_index_or (forms_of lines parts) (place k r c) None)
unfolding forms_of form_read
forms_right lines parts k r c below rows columns =
    let chars : List ℕ = cell_text (rung_of lines (part_in parts k)) r c in
    subst (IsFormOf chars) (sym (all_places-drawn (form_read lines parts) (min (length parts) RUNGS) None k r c below rows columns)) (forms_told chars)

forms_count : (lines : Lines) (parts : List Part) → length (forms_of lines parts) ≡ PLACES * min (length parts) RUNGS
unfolding forms_of
forms_count lines parts = length-all_places (form_read lines parts) (min (length parts) RUNGS)

pub page_reads : (decls : Declared) (text : List ℕ) → ReadsAs text (page_of decls text)
page_reads decls text =
    let cut = pieces_of text in
    record {
      pieces = cut.0;
      cut = cut.1;
      lines = lines_are cut.0 text cut.1;
      unclosed = unclosed_is cut.0 text cut.1;
      rungs = parts_are (lines_of text);
      count = forms_count (lines_of text) (parts_of (lines_of text));
      forms = forms_right (lines_of text) (parts_of (lines_of text));
    }

one_forms : (text : List ℕ) (p : Page) → ReadsAs text p → p.forms ≡ forms_of p.lines p.parts
one_forms text p r =
    same_list None (min (length p.parts) RUNGS) p.forms (forms_of p.lines p.parts) r.count (forms_count p.lines p.parts) (λ k row c below rows columns.
    form_of_one (cell_text (rung_of p.lines (part_in p.parts k)) row c) _ _ (r.forms k row c below rows columns)
    (forms_right p.lines p.parts k row c below rows columns))

pub one_page : (text : List ℕ) (p : Page) → ReadsAs text p → p ≡ page_of p.decls text
one_page text p r =
    let lines : p.lines ≡ lines_of text = r.lines ∙ sym (lines_are r.pieces text r.cut) in
    let unclosed : p.unclosed ≡ unclosed_line text = told_one _ _ _ r.unclosed (unclosed_is r.pieces text r.cut) in
    let parts : p.parts ≡ parts_of (lines_of text)
    = parts_same (lines_of text) p.parts (parts_of (lines_of text)) (subst (λ l. AreRungs l 0 p.parts) lines r.rungs) (parts_are (lines_of text)) in
    ap (page p.decls p.lines p.unclosed p.parts) (one_forms text p r)
    ∙ ap (λ l. page_with p.decls l p.unclosed p.parts) lines
    ∙ ap (λ u. page_with p.decls (lines_of text) u p.parts) unclosed
    ∙ ap (page_with p.decls (lines_of text) (unclosed_line text)) parts
