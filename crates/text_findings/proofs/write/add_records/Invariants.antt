use Rattle.std.proofs.Common.{map, take}
use Rattle.io_text.specs.Buffer.{SendsAll}
use Rattle.io_text.specs.Text.{lines_text}
use Rattle.text_findings.specs.FindingText.{finding_record}
use Rattle.text_findings.proofs.write.add_records.Given as goal

abbrev pub invariant-loop-finding : goal.invariant-loop-finding
invariant-loop-finding g l =
    SendsAll (g.W.Sink.log l.fn.writer) (g.W.Sink.log l.writer) l.fn.buffer l.buffer (lines_text (map (finding_record l.old l.new) (take l.finding-index l.list)))
