use Rattle.std.specs.Prelude.{◌≡◌, ◌≤◌, length}
use Rattle.io_text.specs.Text.{lines_text}
use Rattle.io_text.specs.Buffer.{SendsAll}
use Rattle.text_warnings.specs.Decided.{decided}
use Rattle.text_warnings.specs.Warnings.{row_of_names}
use Rattle.text_warnings.proofs.Rows.{rows_to}
use Rattle.text_warnings.proofs.names.add_name.Given as goal

abbrev pub invariant-loop-earlier : goal.invariant-loop-earlier
invariant-loop-earlier g l =
    SendsAll (g.W.Sink.log l.fn.writer) (g.W.Sink.log l.writer) l.fn.buffer l.buffer (lines_text (rows_to (row_of_names decided l.decls l.number) l.earlier))
    × (l.rows ≡ length (rows_to (row_of_names decided l.decls l.number) l.earlier))
    × (l.rows ≤ l.earlier)
