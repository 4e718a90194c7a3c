use Rattle.std.proofs.Common.{◌≡◌, ℕ, ◌<◌, map, true}
use Rattle.diagram_reader.specs.Checks.{is_wide_at}
use Rattle.diagram_reader.proofs.rung.wide_line.Given as goal

abbrev pub invariant-loop-line : goal.invariant-loop-line
invariant-loop-line l = (k : ℕ) → k < l.line → is_wide_at (map (λ x. x.now) l.lines) k ≡ true → ⊥
