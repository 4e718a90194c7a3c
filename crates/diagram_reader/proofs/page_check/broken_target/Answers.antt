use Rattle.std.proofs.Common.{◌≡◌, ◌+◌, ◌*◌, List, ℕ, map, Some, None, ◌∙◌, below_more, arith}
use Rattle.std.proofs.lemmas.Bool.{iff_false}
use Rattle.diagram_program.specs.declared.geometry.TheConstants.{COLUMNS}
use Rattle.diagram_page.specs.declared.form.Form.TheVariants.{Jump}
use Rattle.diagram_page.specs.Page.{labels_of, form_at}
use Rattle.diagram_page.specs.Seen.{seen}
use Rattle.diagram_page.proofs.ReadingOrder.{at_row}
use Rattle.diagram_reader.specs.PageRules.{target_of}
use Rattle.diagram_reader.proofs.page_check.broken_target.Goals as goal

pub returns-clause-none : goal.returns-clause-none
returns-clause-none c = λ line t. c.loop-n.invariant (COLUMNS * t.0 + t.1) (omega (arith, t.3, t.4, c.loop-n-test.false))
    (at_row (λ r b. (label : List ℕ) × (form_at (seen c.args.page) c.args.rung r b ≡ Some (Jump label))
    × (target_of (labels_of (map (λ l. l.now) c.args.page.lines.now) c.args.page.parts.now) c.args.rung (form_at (seen c.args.page) c.args.rung r b) ≡ None))
    t.0 t.1 t.4 (t.2, t.6, t.7))

pub loop-n-preserved : goal.loop-n-preserved
loop-n-preserved c = below_more _ _ c.loop-n.invariant
    (λ t. iff_false c.leads_nowhere.ensures c.if-leads_nowhere.false (t.0, c.form_at.ensures ∙ t.1, rw (c.form_at.ensures, c.requires.known) t.2))
