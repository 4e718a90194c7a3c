use Rattle.std.proofs.Common.{◌≡◌, ℕ, ◌<◌, ◌≤◌, min, map, true}
use Rattle.diagram_page.specs.Picture.{vertical}
use Rattle.diagram_page.proofs.picture.same_group.Given as goal

abbrev pub invariant-loop-between : goal.invariant-loop-between
invariant-loop-between l = (j : ℕ) → min l.row l.other ≤ j → j < l.between → vertical (map (λ x. x.now) l.lines) j l.column ≡ true
