use Rattle.std.specs.Prelude.{◌≡◌, ◌≤◌, length, take}
use Rattle.std.specs.List.{flat_map}
use Rattle.io_text.specs.Text.{lines_text}
use Rattle.io_text.specs.Buffer.{SendsAll}
use Rattle.text_cross_reference.specs.Uses.{symbols_of}
use Rattle.text_warnings.specs.Decided.{decided}
use Rattle.text_warnings.specs.Warnings.{row_if_unused}
use Rattle.text_warnings.proofs.unused.add_unused.Given as goal

abbrev pub invariant-loop-number : goal.invariant-loop-number
invariant-loop-number g l =
    SendsAll (g.W.Sink.log l.fn.writer) (g.W.Sink.log l.writer) l.fn.buffer l.buffer (lines_text (flat_map (row_if_unused decided l.program) (take l.number (symbols_of l.program.decls))))
    × (l.rows ≡ length (flat_map (row_if_unused decided l.program) (take l.number (symbols_of l.program.decls))))
    × (l.rows ≤ l.number)
