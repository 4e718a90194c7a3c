use Rattle.std.proofs.Common.{List}
use Rattle.io_text.specs.Buffer.{SendsAll}
use Rattle.io_text.specs.Left.{Fields}
use Rattle.io_text.specs.Text.{lines_text}
use Rattle.text_runs.proofs.InBrief.{IsFront}
use Rattle.text_runs.proofs.brief.add_brief_scans.Given as goal

abbrev pub invariant-loop-number : goal.invariant-loop-number
invariant-loop-number g l =
    (front : List Fields) × IsFront l.run l.number front
    × SendsAll (g.W.Sink.log l.fn.writer) (g.W.Sink.log l.writer) l.fn.buffer l.buffer (lines_text front)
