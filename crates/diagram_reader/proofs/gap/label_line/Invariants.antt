use Rattle.std.proofs.Common.{◌≡◌, ℕ, ◌+◌, ◌<◌, is_some, map, true}
use Rattle.diagram_page.specs.Gap.{label_in}
use Rattle.diagram_page.specs.Picture.{line_at}
use Rattle.diagram_reader.proofs.gap.label_line.Given as goal

abbrev pub invariant-loop-n : goal.invariant-loop-n
invariant-loop-n l = (k : ℕ) → k < l.n → is_some (label_in (line_at (map (λ x. x.now) l.lines) (l.from + k))) ≡ true → ⊥
