use Rattle.io_text.proofs.Sending.{flush_last}
use Rattle.text_findings.specs.FindingText.{findings_text}
use Rattle.text_findings.proofs.write.write_findings.Goals as goal

pub returns : goal.returns
returns g c =
    flush_last _ _ _ _ (findings_text c.args.old.now c.args.new.now c.args.list.now) _ (rw c.new-buffer.ensures at c.in_ok-add_all.ensures) c.flush.ensures.wrote
