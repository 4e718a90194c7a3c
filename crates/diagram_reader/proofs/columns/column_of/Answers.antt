use Rattle.std.proofs.Common.{◌-◌, ◌<◌, ◌≤◌, ℕ, List, Option, Some, None, IfSome, arith, drop, length, take}
use Rattle.diagram_declarations.specs.Decls.{Declared}
use Rattle.diagram_declarations.specs.Grammar.{HasDecls}
use Rattle.diagram_page.proofs.PageLaws.{page_reads}
use Rattle.diagram_reader.specs.Columns.{IsColumnIn, IsColumnOf}
use Rattle.diagram_page.specs.Lines.{line_feeds}
use Rattle.diagram_page.specs.ReadLines.{page_of}
use Rattle.diagram_reader.specs.declared.grid_rule.GridRule.{GridRule}
use Rattle.diagram_reader.proofs.columns.column_of.Goals as goal

-- A column of the page is one of the text.
found_in : (text : List ℕ) (declared : Declared) (place : ℕ) → place ≤ length text → HasDecls text declared (drop place text)
    → (rule : GridRule) (rung line : ℕ) → 0 < rung → line_feeds (take place text) < line
    → (found : Option ℕ) → IfSome found (IsColumnIn (page_of declared (drop place text)) rule (rung - 1) (line - line_feeds (take place text) - 1))
    → IfSome found (IsColumnOf text rule rung line)
found_in text declared place within read rule rung line some after None h = h
found_in text declared place within read rule rung line some after (Some column) h = record {
  page = page_of declared (drop place text);
  place = place;
  before = rung - 1;
  below = line - line_feeds (take place text) - 1;
  within = within;
  read = read;
  reads = page_reads declared (drop place text);
  rungs = omega (arith, some);
  lines = omega (arith, after);
  breaks = h;
}

pub returns-in-Ok-column_after : goal.returns-in-Ok-column_after
returns-in-Ok-column_after c =
    found_in c.args.text.now _ c.in-Ok.place c.in-Ok.ensures.found.0 c.in-Ok.ensures.found.1 c.args.rule c.args.rung c.args.line
    (omega (arith, c.if-rung-eq0.false)) (omega (arith, c.if-line-before.false, c.line_feeds-before.ensures.value)) c.in-Ok-column_after.column
    (rw c.behind.ensures at rw c.line_feeds-before.ensures.value at c.in-Ok-column_after.ensures)
