use Rattle.io_text.proofs.Lines.{line_more, line_prefix}
use Rattle.io_text.proofs.Sending.{sends_err}
use Rattle.text_runs.specs.RunText.{scan_row}
use Rattle.text_runs.proofs.Cut.{map_cut, map_next}
use Rattle.text_runs.proofs.stimulus.add_scans.Goals as goal

pub loop-number-preserved : goal.loop-number-preserved
loop-number-preserved g c =
    let next = map_next scan_row c.args.run.now c.loop-number.number c.index-run-number.result c.loop-number-test.true c.index-run-number.is in
    line_more _ _ _ _ _ _ _ _ _ next c.loop-number.invariant c.in_ok-add_scan.ensures

pub returns-in_err-add_scan : goal.returns-in_err-add_scan
returns-in_err-add_scan g c = sends_err _ _ _ _ _ _ c.from_residual.ensures.0
    (let cut = map_cut scan_row c.args.run.now c.loop-number.number c.index-run-number.result c.loop-number-test.true c.index-run-number.is in
    line_prefix _ _ _ _ _ _ _ _ _ cut c.loop-number.invariant c.in_err-add_scan.ensures)
