use Rattle.std.proofs.Common.{map, take}
use Rattle.io_text.specs.Buffer.{SendsAll}
use Rattle.io_text.specs.Text.{lines_text}
use Rattle.text_runs.specs.RunText.{scan_row}
use Rattle.text_runs.proofs.stimulus.add_scans.Given as goal

abbrev pub invariant-loop-number : goal.invariant-loop-number
invariant-loop-number g l =
    SendsAll (g.W.Sink.log l.fn.writer) (g.W.Sink.log l.writer) l.fn.buffer l.buffer (lines_text (map scan_row (take l.number l.run)))
