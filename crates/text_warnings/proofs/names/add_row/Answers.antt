use Rattle.std.proofs.Common.{subst, sym}
use Rattle.io_text.specs.Buffer.{Sends}
use Rattle.text_warnings.proofs.SimilarRows.{similar_lines}
use Rattle.text_warnings.proofs.names.add_row.Goals as goal

pub returns : goal.returns
returns g c =
    subst (λ text. Sends (g.W.Sink.log c.args.writer.now) (g.W.Sink.log c.add_pieces.new.writer) c.args.buffer.now c.add_pieces.new.buffer c.add_pieces.result text)
    (sym (similar_lines c.args.name.now c.args.earlier.now)) (rw c.as_slice.ensures at c.add_pieces.ensures)
