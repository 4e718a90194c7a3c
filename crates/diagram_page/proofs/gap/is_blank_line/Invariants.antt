use Rattle.std.proofs.Common.{◌≡◌, take}
use Rattle.std.specs.List.{list_all}
use Rattle.diagram_page.specs.Gap.{is_gap_blank}
use Rattle.diagram_page.proofs.gap.is_blank_line.Given as goal

abbrev pub invariant-loop-b : goal.invariant-loop-b
invariant-loop-b l = l.blank ≡ list_all is_gap_blank (take l.b-index l.text)
