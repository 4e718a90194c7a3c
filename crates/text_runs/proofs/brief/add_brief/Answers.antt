use Rattle.std.proofs.Common.{[], map, refl}
use Rattle.io_text.specs.Text.{lines_text}
use Rattle.io_text.proofs.Lines.{line_prefix}
use Rattle.io_text.proofs.Sending.{sends_last, sends_none, sends_err}
use Rattle.text_runs.specs.RunText.{brief_scans, brief_text, run_header, scan_row}
use Rattle.text_runs.proofs.brief.add_brief.Goals as goal

pub returns-in_err-add_header : goal.returns-in_err-add_header
returns-in_err-add_header g c = sends_err _ _ _ _ _ _ c.from_residual.ensures.0
    (line_prefix _ _ _ c.args.buffer.now c.args.buffer.now [] _ (map scan_row (brief_scans c.args.run.now)) (run_header c.args.program.now) refl
    (sends_none _ c.args.buffer.now) c.in_err-add_header.ensures)

pub returns : goal.returns
returns g c =
    sends_last _ _ _ _ _ _ (brief_text c.args.program.now c.args.run.now) _ (lines_text (map scan_row (brief_scans c.args.run.now))) _ refl c.in_ok-add_header.ensures c.add_brief_scans.ensures
