use Rattle.std.proofs.Common.{◌≡◌, ◌∙◌, ℕ, List, ap, drop, sym}
use Rattle.diagram_page.specs.Page.{Page}
use Rattle.diagram_page.specs.ReadLines.{lines_of, page_of, parts_of}
use Rattle.diagram_page.proofs.PageLaws.{one_page, page_reads}
use Rattle.diagram_page.proofs.outline.outline_of.Goals as goal

pub returns-in-Ok-clause-found : goal.returns-in-Ok-clause-found
returns-in-Ok-clause-found c = record {
  page = page_of c.in_ok-place.field-0-0 (drop c.in_ok-place.place c.args.text.now);
  within = c.in_ok-place.ensures.found.0;
  read = c.in_ok-place.ensures.found.1;
  reads = page_reads c.in_ok-place.field-0-0 (drop c.in_ok-place.place c.args.text.now);
  same = sym (rw c.behind.ensures at c.in-Ok.ensures);
}

pub returns-in-Ok-clause-only : goal.returns-in-Ok-clause-only
returns-in-Ok-clause-only c = λ page rest read reads.
    let same = c.in_ok-place.ensures.only page.decls rest read in
    let is : c.in-Ok.parts.items ≡ parts_of (lines_of (drop c.in_ok-place.place c.args.text.now)) = rw c.behind.ensures at c.in-Ok.ensures in (
      same.1,
      ap (λ (p : Page). p.parts) (one_page rest page reads)
          ∙ ap (λ (t : List ℕ). parts_of (lines_of t)) same.1
          ∙ sym is,
    )
