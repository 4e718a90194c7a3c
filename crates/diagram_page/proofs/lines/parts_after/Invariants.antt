use Rattle.std.proofs.Common.{◌≡◌, ℕ, ◌+◌, ◌≤◌, ◌<◌, ◌++◌, length, map, Option, Some, None, All}
use Rattle.diagram_page.specs.ReadLines.{parts_from, IsWithin}
use Rattle.diagram_page.proofs.lines.parts_after.Given as goal

-- where the run stands: behind the last end
abbrev pub RunWithin : ℕ → ℕ → Option ℕ → Type 0
RunWithin at line None = at ≤ line
RunWithin at line (Some s) = (at ≤ s) × (s < line)

abbrev pub invariant-loop-lines : goal.invariant-loop-lines
invariant-loop-lines l = record {
  same : l.parts.items ++ parts_from l.at l.line l.run (map (λ x. x.now) l.lines) ≡ parts_from 0 1 None (map (λ x. x.now) l.initial.lines);
  size : l.line + length l.lines ≡ length l.initial.lines + 1;
  run : RunWithin l.at l.line l.run;
  within : All (IsWithin (length l.initial.lines + 1)) l.parts.items;
}

abbrev pub decreases-loop-lines : goal.decreases-loop-lines
decreases-loop-lines l = length l.lines
