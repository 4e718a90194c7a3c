use Rattle.std.proofs.Common.{◌∙◌, ◌++◌, [], append_assoc, codes, drop, get_or, sym}
use Rattle.csv.specs.Records.{fields_of}
use Rattle.io_text.specs.Text.{after_commas, line_text}
use Rattle.io_text.proofs.Sending.{sends_err, sends_last, sends_more, sends_none, sends_prefix}
use Rattle.text_expected.proofs.Fields.{line_parts}
use Rattle.text_expected.proofs.telling.add_record.Goals as goal

pub returns-in_err-add : goal.returns-in_err-add
returns-in_err-add g c = sends_err _ _ _ _ _ _ c.from_residual.ensures.0
    (let fs = fields_of c.args.row.now in
    sends_prefix _ _ _ c.args.buffer.now c.args.buffer.now (line_text fs) [] (get_or fs 0 []) (after_commas (drop 1 fs) ++ codes "\n") (sym (line_parts fs))
    (sends_none _ c.args.buffer.now) (rw c.field.ensures at c.in_err-add.ensures))

pub returns-in_err-add_others : goal.returns-in_err-add_others
returns-in_err-add_others g c = sends_err _ _ _ _ _ _ c.from_residual-in_err-add_others.ensures.0
    (let fs = fields_of c.args.row.now in
    sends_prefix _ _ _ _ _ (line_text fs) (get_or fs 0 []) (after_commas (drop 1 fs)) (codes "\n") (sym (line_parts fs)) (rw c.field.ensures at c.in_ok-add.ensures)
    c.in_err-add_others.ensures)

pub returns : goal.returns
returns g c =
    let fs = fields_of c.args.row.now in
    let others = after_commas (drop 1 fs) in
    sends_last _ _ _ _ _ _ (line_text fs) (get_or fs 0 [] ++ others) (codes "\n") _ (sym (line_parts fs) ∙ sym (append_assoc (get_or fs 0 []) others (codes "\n")))
    (sends_more _ _ _ _ _ _ (get_or fs 0 []) others (rw c.field.ensures at c.in_ok-add.ensures) c.in_ok-add_others.ensures) c.add-2.ensures
