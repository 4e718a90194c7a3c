use Rattle.std.specs.Prelude.{◌-◌, ◌≤◌, drop, take}
use Rattle.csv.specs.Records.{fields_of}
use Rattle.io_text.specs.Buffer.{SendsAll}
use Rattle.io_text.specs.Text.{after_commas}
use Rattle.text_expected.proofs.telling.add_others.Given as goal

abbrev pub invariant-loop-number : goal.invariant-loop-number
invariant-loop-number g l =
    (1 ≤ l.number)
    × SendsAll (g.W.Sink.log l.fn.writer) (g.W.Sink.log l.writer) l.fn.buffer l.buffer (after_commas (take (l.number - 1) (drop 1 (fields_of l.row))))
