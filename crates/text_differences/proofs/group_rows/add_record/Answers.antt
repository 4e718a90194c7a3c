use Rattle.std.proofs.Common.{◌∙◌, ◌++◌, ◌∷◌, ap, decimal, map, subst, sym}
use Rattle.search_groups.specs.Groups.{cells}
use Rattle.io_text.specs.Buffer.{Sends}
use Rattle.io_text.specs.Text.{line_text}
use Rattle.text_causes.specs.GroupText.{cell_text}
use Rattle.text_differences.specs.DifferenceText.{columns}
use Rattle.text_differences.proofs.RowLaws.{in_pieces}
use Rattle.text_differences.proofs.group_rows.add_record.Goals as goal

pub returns : goal.returns
returns g c =
    let side = c.args.side in
    let row = map cell_text (cells c.args.listed c.args.group) in
    let pieces = ap (λ n. line_text (decimal n ∷ (columns side ++ row))) (sym c.requires.numbers) ∙ in_pieces (decimal c.args.numbers) side row in
    subst (λ text. Sends (g.W.Sink.log c.args.writer.now) (g.W.Sink.log c.add_pieces.new.writer) c.args.buffer.now c.add_pieces.new.buffer c.add_pieces.result text) (sym pieces)
    (rw (c.as_slice.ensures, c.columns.ensures, c.fill_end.ensures) at c.add_pieces.ensures)
