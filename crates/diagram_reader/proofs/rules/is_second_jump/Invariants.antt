use Rattle.std.proofs.Common.{◌≡◌, ℕ, ◌<◌, ◌/◌, ◌%◌, true}
use Rattle.diagram_program.specs.declared.geometry.TheConstants.{COLUMNS}
use Rattle.diagram_page.specs.Page.{form_at}
use Rattle.diagram_page.specs.Form.{leaps}
use Rattle.diagram_page.specs.Seen.{seen}
use Rattle.diagram_reader.proofs.rules.is_second_jump.Given as goal

abbrev pub invariant-loop-n : goal.invariant-loop-n
invariant-loop-n l = (m : ℕ) → m < l.n → leaps (form_at (seen l.page) l.at.rung (m / COLUMNS) (m % COLUMNS)) ≡ true → ⊥
