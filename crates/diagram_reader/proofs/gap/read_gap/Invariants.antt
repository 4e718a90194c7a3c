use Rattle.std.proofs.Common.{◌≡◌, map}
use Rattle.diagram_page.specs.Gap.{label_before}
use Rattle.diagram_reader.specs.Gap.{IsSoundGap}
use Rattle.diagram_reader.proofs.gap.read_gap.Given as goal

abbrev pub invariant-loop-n : goal.invariant-loop-n
invariant-loop-n l = record {
  known : l.label ≡ label_before (map (λ x. x.now) l.lines) l.from l.n;
  kept : IsSoundGap (map (λ x. x.now) l.lines) l.from l.unclosed l.labels l.n;
}
