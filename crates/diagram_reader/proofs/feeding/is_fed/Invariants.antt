use Rattle.std.proofs.Common.{◌≡◌, ℕ, ◌<◌, true}
use Rattle.diagram_page.specs.Picture.{SameGroup}
use Rattle.diagram_page.specs.Page.{rung_at}
use Rattle.diagram_reader.specs.Feeding.{enters}
use Rattle.diagram_page.specs.Seen.{seen}
use Rattle.diagram_reader.proofs.feeding.is_fed.Given as goal

abbrev pub invariant-loop-row : goal.invariant-loop-row
invariant-loop-row l = (j : ℕ) → j < l.row → SameGroup (rung_at (seen l.page) l.at.rung) l.at.column l.at.row j → enters (seen l.page) l.at.rung j l.at.column ≡ true → ⊥
