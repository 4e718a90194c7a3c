use Rattle.std.proofs.Common.{◌++◌, [], codes, decimal}
use Rattle.io_text.specs.Text.{after_commas, line_text}
use Rattle.text_runs.specs.CauseText.{mark, run_record}
use Rattle.text_causes.specs.Rows.{bits}
use Rattle.io_text.proofs.Sending.{sends_err, sends_last, sends_none, sends_prefix}
use Rattle.text_causes.proofs.TwoFields.{in_two}
use Rattle.text_runs.proofs.cause_rows.add_row.Goals as goal

pub returns-in_err-add_pieces : goal.returns-in_err-add_pieces
returns-in_err-add_pieces g c = sends_err _ _ _ _ _ _ c.from_residual.ensures.0
    (let number = decimal c.args.cause.number in
    let settled = mark c.args.cause.reached in
    let ends = after_commas (bits c.args.listed c.args.cause.number c.args.listed) in
    sends_prefix _ _ _ c.args.buffer.now c.args.buffer.now (line_text (run_record c.args.listed c.args.cause)) [] (number ++ (codes "," ++ (settled ++ []))) (ends ++ codes "\n")
    (in_two number settled ends (codes "\n")) (sends_none _ c.args.buffer.now) (rw (c.as_slice.ensures, c.mark.ensures) at c.in_err-add_pieces.ensures))

pub returns : goal.returns
returns g c =
    let number = decimal c.args.cause.number in
    let settled = mark c.args.cause.reached in
    let ends = after_commas (bits c.args.listed c.args.cause.number c.args.listed) in
    sends_last _ _ _ _ _ _ (line_text (run_record c.args.listed c.args.cause)) (number ++ (codes "," ++ (settled ++ []))) (ends ++ codes "\n") _
    (in_two number settled ends (codes "\n")) (rw (c.as_slice.ensures, c.mark.ensures) at c.in_ok-add_pieces.ensures) (rw c.fill_end.ensures at c.add.ensures)
