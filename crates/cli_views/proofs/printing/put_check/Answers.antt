use Rattle.std.proofs.Common.{Bool, true, false}
use Rattle.diagram_program.specs.Program.{Drawing}
use Rattle.io_text.specs.Text.{lines_text}
use Rattle.io_text.specs.Log.{PutsPrefix, WriteLog}
use Rattle.io_text.proofs.Puts.{puts_more}
use Rattle.io_text.proofs.Sending.{puts_err}
use Rattle.text_warnings.specs.Told.{Told}
use Rattle.text_warnings.specs.Warnings.{warning_rows}
use Rattle.cli_views.specs.Views.{check_line, check_text}
use Rattle.cli_inputs.proofs.Ends.{puts_cut, prefix_next}
use Rattle.cli_views.proofs.printing.put_check.Goals as goal

-- A line that is cut off, whether or not warnings are to follow.
counts_cut : (a b : WriteLog) (told : Told) (warns : Bool) (p : Drawing) → PutsPrefix a b (check_line p) → PutsPrefix a b (check_text told warns p)
counts_cut a b told true p h = puts_cut a b (check_line p) (lines_text (warning_rows told p)) h
counts_cut a b told false p h = h

pub returns-in_err-put_counts : goal.returns-in_err-put_counts
returns-in_err-put_counts g c = λ told. puts_err _ _ _ _ c.from_residual.ensures.0 (counts_cut _ _ told c.args.warns c.args.program.now c.in_err-put_counts.ensures)

pub returns-in_err-write_warnings : goal.returns-in_err-write_warnings
returns-in_err-write_warnings g c = λ told. puts_err _ _ _ _ c.from_residual-in_err-write_warnings.ensures.0
    (rw c.if-warns.true (prefix_next _ _ _ (check_line c.args.program.now) (lines_text (warning_rows told c.args.program.now)) c.in_ok-put_counts.ensures (c.in_err-write_warnings.ensures.wrote told)))

pub returns-in_ok-write_warnings : goal.returns-in_ok-write_warnings
returns-in_ok-write_warnings g c = λ told.
    rw c.if-warns.true (puts_more _ _ _ (check_line c.args.program.now) (lines_text (warning_rows told c.args.program.now)) c.in_ok-put_counts.ensures (c.in_ok-write_warnings.ensures.wrote told))
