use Rattle.std.proofs.Common.{decimal, subst, sym}
use Rattle.io_text.specs.Buffer.{Sends}
use Rattle.text_causes.specs.Rows.{bits}
use Rattle.text_held_differences.specs.HeldText.{scan_field}
use Rattle.text_held_differences.proofs.HeldLaws.{in_pieces}
use Rattle.text_held_differences.proofs.held.add_row.Goals as goal

pub returns : goal.returns
returns g c =
    let d = c.args.difference in
    let pieces = in_pieces (decimal d.number) (scan_field d.of_old) (scan_field d.of_new) (bits c.args.listed d.number c.args.listed) in
    subst (λ text. Sends (g.W.Sink.log c.args.writer.now) (g.W.Sink.log c.add_pieces.new.writer) c.args.buffer.now c.add_pieces.new.buffer c.add_pieces.result text) (sym pieces)
    (rw (c.as_slice.ensures, c.scan_field.ensures, c.scan_field-2.ensures, c.fill_end.ensures) at c.add_pieces.ensures)
