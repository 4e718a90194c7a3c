use Rattle.std.proofs.Common.{◌≡◌, ℕ, ◌<◌, ◌/◌, ◌%◌, List, map, Some, None}
use Rattle.diagram_program.specs.declared.geometry.TheConstants.{COLUMNS}
use Rattle.diagram_page.specs.declared.form.Form.TheVariants.{Jump}
use Rattle.diagram_page.specs.Page.{labels_of, form_at}
use Rattle.diagram_page.specs.Seen.{seen}
use Rattle.diagram_reader.specs.PageRules.{target_of}
use Rattle.diagram_reader.proofs.page_check.broken_target.Given as goal

abbrev pub invariant-loop-n : goal.invariant-loop-n
invariant-loop-n l = (m : ℕ) → m < l.n → (label : List ℕ) × (form_at (seen l.page) l.rung (m / COLUMNS) (m % COLUMNS) ≡ Some (Jump label))
    × (target_of (labels_of (map (λ x. x.now) l.page.lines.now) l.page.parts.now) l.rung (form_at (seen l.page) l.rung (m / COLUMNS) (m % COLUMNS)) ≡ None) → ⊥
