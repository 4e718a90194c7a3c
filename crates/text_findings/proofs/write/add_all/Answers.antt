use Rattle.std.proofs.Common.{[], map, refl}
use Rattle.io_text.specs.Text.{lines_text}
use Rattle.io_text.proofs.Lines.{line_prefix}
use Rattle.io_text.proofs.Sending.{sends_err, sends_last, sends_none}
use Rattle.text_findings.specs.FindingText.{finding_record, findings_text, header}
use Rattle.text_findings.proofs.write.add_all.Goals as goal

pub returns-in_err-add_header : goal.returns-in_err-add_header
returns-in_err-add_header g c = sends_err _ _ _ _ _ _ c.from_residual.ensures.0
    (line_prefix _ _ _ c.args.buffer.now c.args.buffer.now [] _ (map (finding_record c.args.old.now c.args.new.now) c.args.list.now) header refl
    (sends_none _ c.args.buffer.now) c.in_err-add_header.ensures)

pub returns : goal.returns
returns g c =
    let row = finding_record c.args.old.now c.args.new.now in
    sends_last _ _ _ _ _ _ (findings_text c.args.old.now c.args.new.now c.args.list.now) _ (lines_text (map row c.args.list.now)) _ refl
    c.in_ok-add_header.ensures c.add_records.ensures
