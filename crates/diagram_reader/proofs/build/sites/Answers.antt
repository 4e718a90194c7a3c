use Rattle.std.proofs.Common.{◌≡◌, ℕ, ◌+◌, ◌/◌, ◌%◌, None, get_or, cond, ap, ap₂, sym, ◌∙◌, arith, refl}
use Rattle.diagram_program.specs.declared.geometry.TheConstants.{ROWS, PLACES}
use Rattle.diagram_page.specs.Page.{Page, form_at}
use Rattle.diagram_program.specs.Geometry.{place, at_place}
use Rattle.diagram_reader.specs.Reading.{is_edge, cell_drawn, site_drawn, memories_before}
use Rattle.diagram_page.specs.Seen.{seen}
use Rattle.diagram_program.proofs.PlaceLaws.{no_place_yet, one_place_more}
use Rattle.diagram_reader.proofs.NumberLaws.{next_memory}
use Rattle.diagram_reader.proofs.build.sites.Goals as goal

site_is : (page : Page) (n next : ℕ) → next ≡ memories_before page n
    → record (at_place (site_drawn page) n) { cell = at_place (cell_drawn page next) n } ≡ at_place (site_drawn page) n
site_is page n next number =
    let here : place (n / PLACES) (n % PLACES % ROWS) (n % PLACES / ROWS) ≡ n = omega arith in
    ap (λ m. record (at_place (site_drawn page) n) { cell = at_place (cell_drawn page m) n }) (number ∙ ap (memories_before page) (sym here))

next_is : (page : Page) (n next after : ℕ) → next ≡ memories_before page n → after ≡ next + cond (is_edge (at_place (form_at page) n)) 1 0
    → after ≡ memories_before page (n + 1)
next_is page n next after number value =
    let here : place (n / PLACES) (n % PLACES % ROWS) (n % PLACES / ROWS) ≡ n = omega arith in
    value ∙ ap₂ (λ m i. m + cond (is_edge (get_or page.forms i None)) 1 0) number here ∙ sym (next_memory page n)

pub loop-n-init : goal.loop-n-init
loop-n-init c = record { so_far = rw c.new-sites.ensures.items (no_place_yet _); number = refl; small = omega arith }

pub loop-n-preserved : goal.loop-n-preserved
loop-n-preserved c =
    let page : Page = seen c.args.page in
    let i = c.loop-n.invariant in
    let drawn = rw (c.from_number-at.ensures.0, c.from_number-at.ensures.1, c.from_number-at.ensures.2) at c.site_drawn.ensures in
    record {
      so_far = c.in_ok-push.ensures.items
          ∙ one_place_more _ (at_place (site_drawn page)) c.loop-n.n _ i.so_far
          (drawn ∙ site_is page c.loop-n.n _ i.number);
      number = next_is page c.loop-n.n _ _ i.number (rw (c.form_at.ensures, c.from_number-at.ensures.0, c.from_number-at.ensures.1, c.from_number-at.ensures.2) at c.after_memory-next.ensures.value);
      small = omega (arith, i.small, c.after_memory-next.ensures.close);
    }
