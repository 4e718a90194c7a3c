use Rattle.std.specs.Prelude.{◌≡◌, ◌≤◌, ◌*◌, length}
use Rattle.io_text.specs.Text.{lines_text}
use Rattle.io_text.specs.Buffer.{SendsAll}
use Rattle.text_warnings.specs.Decided.{decided}
use Rattle.text_warnings.specs.Warnings.{rows_of_name}
use Rattle.text_warnings.proofs.Rows.{rows_to}
use Rattle.text_warnings.proofs.names.add_names.Given as goal

abbrev pub invariant-loop-number : goal.invariant-loop-number
invariant-loop-number g l =
    SendsAll (g.W.Sink.log l.fn.writer) (g.W.Sink.log l.writer) l.fn.buffer l.buffer (lines_text (rows_to (rows_of_name decided l.decls) l.number))
    × (l.rows ≡ length (rows_to (rows_of_name decided l.decls) l.number))
    × (l.rows ≤ 320 * l.number)
