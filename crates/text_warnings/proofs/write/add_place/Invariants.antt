use Rattle.std.specs.Prelude.{◌≡◌, ◌≤◌, length, take}
use Rattle.std.specs.List.{flat_map}
use Rattle.io_text.specs.Text.{lines_text}
use Rattle.io_text.specs.Buffer.{SendsAll}
use Rattle.text_warnings.specs.Decided.{decided}
use Rattle.text_warnings.specs.Warnings.{all_warnings, row_if_warned}
use Rattle.text_warnings.proofs.write.add_place.Given as goal

abbrev pub invariant-loop-warning : goal.invariant-loop-warning
invariant-loop-warning g l =
    SendsAll (g.W.Sink.log l.fn.writer) (g.W.Sink.log l.writer) l.fn.buffer l.buffer (lines_text (flat_map (row_if_warned decided l.program l.place) (take l.warning-index all_warnings)))
    × (l.rows ≡ length (flat_map (row_if_warned decided l.program l.place) (take l.warning-index all_warnings)))
    × (l.rows ≤ l.warning-index)
