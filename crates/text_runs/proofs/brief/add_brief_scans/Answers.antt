use Rattle.std.proofs.Common.{◌∙◌, ◌+◌, ◌++◌, ◌∷◌, [], ap, map, refl, sym}
use Rattle.io_text.specs.Text.{lines_text}
use Rattle.io_text.proofs.Lines.{line_more, line_prefix}
use Rattle.io_text.proofs.Sending.{sends_err, sends_none, sends_same}
use Rattle.text_runs.specs.RunText.{brief_scans, scan_row}
use Rattle.text_runs.proofs.InBrief.{all_rows, brief_from, row_here, row_more, row_none}
use Rattle.text_runs.proofs.brief.add_brief_scans.Goals as goal

pub loop-number-init : goal.loop-number-init
loop-number-init g c = ([], refl, sends_none _ _)

pub loop-number-preserved-then-not-has_row : goal.loop-number-preserved-then-not-has_row
loop-number-preserved-then-not-has_row g c =
    let (front, cut, sent) = c.loop-number.invariant in
    (front, row_none c.args.run.now c.loop-number.number front c.loop-number-test.true (sym c.has_row.ensures ∙ c.if-not-has_row.true) cut, sent)

pub loop-number-preserved : goal.loop-number-preserved
loop-number-preserved g c =
    let (front, cut, sent) = c.loop-number.invariant in
    let x = c.index-run-number.result in
    let longer = front ++ scan_row x ∷ [] in (
      longer,
      row_more c.args.run.now c.loop-number.number x front c.loop-number-test.true c.index-run-number.is (sym c.has_row.ensures ∙ c.if-not-has_row.false) cut,
      line_more _ _ _ _ _ _ front longer (scan_row x) refl sent c.in_ok-add_scan.ensures,
    )

pub returns-in_err-add_scan : goal.returns-in_err-add_scan
returns-in_err-add_scan g c = sends_err _ _ _ _ _ _ c.from_residual.ensures.0
    (let (front, cut, sent) = c.loop-number.invariant in
    let run = c.args.run.now in
    let n = c.loop-number.number in
    let x = c.index-run-number.result in
    let all = row_here run n x front c.loop-number-test.true c.index-run-number.is (sym c.has_row.ensures ∙ c.if-not-has_row.false) cut in
    line_prefix _ _ _ _ _ front (map scan_row (brief_scans run)) (map scan_row (brief_from run (n + 1))) (scan_row x) all sent c.in_err-add_scan.ensures)

pub returns : goal.returns
returns g c =
    let (front, cut, sent) = c.loop-number.invariant in
    sends_same _ _ _ _ _ _ (ap lines_text (all_rows c.args.run.now c.loop-number.number front c.loop-number-test.false cut)) sent
