use Rattle.std.proofs.lemmas.List.{map_more}
use Rattle.io_text.proofs.Lines.{line_more, line_prefix}
use Rattle.io_text.proofs.Sending.{sends_err}
use Rattle.text_findings.specs.FindingText.{finding_record}
use Rattle.text_findings.proofs.Records.{map_cut}
use Rattle.text_findings.proofs.write.add_records.Goals as goal

pub loop-finding-preserved : goal.loop-finding-preserved
loop-finding-preserved g c =
    line_more _ _ _ _ _ _ _ _ _ (map_more (finding_record c.args.old.now c.args.new.now) c.args.list.now c.loop-finding.finding-index _ c.loop-finding-test.true)
    c.loop-finding.invariant c.in_ok-add_record.ensures

pub returns-in_err-add_record : goal.returns-in_err-add_record
returns-in_err-add_record g c = sends_err _ _ _ _ _ _ c.from_residual.ensures.0
    (line_prefix _ _ _ _ _ _ _ _ _ (map_cut (finding_record c.args.old.now c.args.new.now) c.args.list.now c.loop-finding.finding-index _ c.loop-finding-test.true)
    c.loop-finding.invariant c.in_err-add_record.ensures)
