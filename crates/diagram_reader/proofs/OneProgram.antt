-- A page has one drawing, and a text is one program.
use Rattle.std.proofs.Common.{◌≡◌, ℕ, ◌*◌, ◌<◌, List, drop, sym, ap, subst, ◌∙◌}
use Rattle.diagram_program.specs.declared.geometry.TheConstants.{PLACES}
use Rattle.diagram_declarations.specs.Decls.{Declared}
use Rattle.diagram_declarations.specs.Grammar.{HasDecls}
use Rattle.diagram_page.specs.Page.{Page, ReadsAs}
use Rattle.diagram_program.specs.Program.{Drawing, drawing}
use Rattle.diagram_program.specs.Sheet.{blank_site}
use Rattle.diagram_reader.specs.Reading.{IsDrawn, IsProgram}
use Rattle.diagram_page.specs.ReadLines.{page_of}
use Rattle.diagram_page.proofs.PageLaws.{one_page, page_reads}
use Rattle.diagram_program.proofs.PlaceLaws.{same_list}

pub one_drawing : (page : Page) (d e : Drawing) → IsDrawn page d → IsDrawn page e → d ≡ e
one_drawing page d e h g =
    let rungs : d.rungs ≡ e.rungs = h.rungs ∙ sym g.rungs in
    let up = λ (k : ℕ) (b : k < d.rungs). subst (λ n. k < n) rungs b in
    let decls : d.decls ≡ e.decls = h.declared ∙ sym g.declared in
    let sites : d.sites ≡ e.sites = same_list blank_site d.rungs d.sites e.sites h.size (g.size ∙ ap (λ n. PLACES * n) (sym rungs))
    (λ k r c b x y. h.sites k r c b x y ∙ sym (g.sites k r c (up k b) x y)) in
    ap (λ x. drawing x d.rungs d.sites) decls ∙ ap (λ x. drawing e.decls x d.sites) rungs ∙ ap (λ x. drawing e.decls e.rungs x) sites

pub one_program : (text : List ℕ) (declared : Declared) (at : ℕ)
    → ((other : Declared) (rest : List ℕ) → HasDecls text other rest → (other ≡ declared) × (rest ≡ drop at text))
    → (p : Drawing) → IsDrawn (page_of declared (drop at text)) p → (d : Drawing) → IsProgram text d → d ≡ p
one_program text declared at only p drawn d program =
    let same = only program.page.decls program.rest program.read in
    let reads : ReadsAs (drop at text) program.page = subst (λ x. ReadsAs x program.page) same.1 program.reads in
    let one : program.page ≡ page_of declared (drop at text)
    = one_page (drop at text) program.page reads ∙ ap (λ x. page_of x (drop at text)) same.0 in
    one_drawing (page_of declared (drop at text)) d p (subst (λ x. IsDrawn x d) one program.drawn) drawn

pub makes_program : (text : List ℕ) (decls : Declared) (rest : List ℕ) → HasDecls text decls rest → (d : Drawing)
    → IsDrawn (page_of decls rest) d → IsProgram text d
makes_program text decls rest read d drawn = record {
  rest = rest;
  page = page_of decls rest;
  read = read;
  reads = page_reads decls rest;
  drawn = drawn;
}
