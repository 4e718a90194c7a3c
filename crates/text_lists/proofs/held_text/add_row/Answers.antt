use Rattle.std.proofs.Common.{◌++◌, [], codes, decimal}
use Rattle.io_text.specs.Text.{after_commas, line_text}
use Rattle.text_lists.specs.HeldText.{held_record}
use Rattle.text_causes.specs.Rows.{bits}
use Rattle.io_text.proofs.Sending.{sends_err, sends_last, sends_none, sends_prefix}
use Rattle.text_causes.proofs.TwoFields.{in_two}
use Rattle.text_lists.proofs.held_text.add_row.Goals as goal

pub returns-in_err-add_pieces : goal.returns-in_err-add_pieces
returns-in_err-add_pieces g c = sends_err _ _ _ _ _ _ c.from_residual.ensures.0
    (let number = decimal c.args.cause.number in
    let scan = decimal c.args.cause.scan in
    let ends = after_commas (bits c.args.listed c.args.cause.number c.args.listed) in
    sends_prefix _ _ _ c.args.buffer.now c.args.buffer.now (line_text (held_record c.args.listed c.args.cause)) [] (number ++ (codes "," ++ (scan ++ []))) (ends ++ codes "\n")
    (in_two number scan ends (codes "\n")) (sends_none _ c.args.buffer.now) (rw c.as_slice.ensures at c.in_err-add_pieces.ensures))

pub returns : goal.returns
returns g c =
    let number = decimal c.args.cause.number in
    let scan = decimal c.args.cause.scan in
    let ends = after_commas (bits c.args.listed c.args.cause.number c.args.listed) in
    sends_last _ _ _ _ _ _ (line_text (held_record c.args.listed c.args.cause)) (number ++ (codes "," ++ (scan ++ []))) (ends ++ codes "\n") _
    (in_two number scan ends (codes "\n")) (rw c.as_slice.ensures at c.in_ok-add_pieces.ensures) (rw c.fill_end.ensures at c.add.ensures)
