use Rattle.std.proofs.Common.{◌∙◌, ◌++◌, ◌∷◌, [], ap, codes, decimal, map, sym}
use Rattle.search_groups.specs.Groups.{cells}
use Rattle.io_text.specs.Text.{after_commas, line_text}
use Rattle.text_causes.specs.GroupText.{cell_text}
use Rattle.io_text.specs.Pieces.{piece_text}
use Rattle.io_text.proofs.Sending.{sends_err, sends_last, sends_none, sends_prefix}
use Rattle.text_causes.proofs.TwoFields.{in_two}
use Rattle.text_lists.specs.ClassText.{class_record}
use Rattle.text_lists.proofs.class_row.add_record.Goals as goal

pub returns-in_err-add_pieces : goal.returns-in_err-add_pieces
returns-in_err-add_pieces g c = sends_err _ _ _ _ _ _ c.from_residual.ensures.0
    (let size = decimal c.args.numbers in
    let column = piece_text c.args.column in
    let row = cells c.args.listed c.args.group in
    let ends = after_commas (map cell_text row) in
    let whole = ap (λ n. line_text (decimal n ∷ column ∷ map cell_text row)) (sym c.requires.numbers) ∙ in_two size column ends (codes "\n") in
    sends_prefix _ _ _ c.args.buffer.now c.args.buffer.now (line_text (class_record column row)) [] (size ++ (codes "," ++ (column ++ []))) (ends ++ codes "\n")
    whole (sends_none _ c.args.buffer.now) (rw c.as_slice.ensures at c.in_err-add_pieces.ensures))

pub returns : goal.returns
returns g c =
    let size = decimal c.args.numbers in
    let column = piece_text c.args.column in
    let row = cells c.args.listed c.args.group in
    let ends = after_commas (map cell_text row) in
    let whole = ap (λ n. line_text (decimal n ∷ column ∷ map cell_text row)) (sym c.requires.numbers) ∙ in_two size column ends (codes "\n") in
    sends_last _ _ _ _ _ _ (line_text (class_record column row)) (size ++ (codes "," ++ (column ++ []))) (ends ++ codes "\n") _
    whole (rw c.as_slice.ensures at c.in_ok-add_pieces.ensures) (rw c.fill_end.ensures at c.add.ensures)
