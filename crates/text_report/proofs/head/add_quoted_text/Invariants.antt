use Rattle.std.proofs.Common.{take}
use Rattle.std.specs.List.{flat_map}
use Rattle.text_report.specs.Adding.{Adds}
use Rattle.text_report.specs.Report.{quoted}
use Rattle.text_report.proofs.head.add_quoted_text.Given as goal

abbrev pub invariant-loop-b : goal.invariant-loop-b
invariant-loop-b l = Adds l.fn.page l.page (flat_map quoted (take l.b-index l.text))
