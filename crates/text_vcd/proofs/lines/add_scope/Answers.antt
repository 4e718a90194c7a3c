use Rattle.std.proofs.Common.{subst}
use Rattle.io_text.specs.Buffer.{Sends}
use Rattle.io_text.specs.Pieces.{pieces_text}
use Rattle.text_vcd.proofs.lines.add_scope.Goals as goal

pub returns : goal.returns
returns g c =
    rw c.instance_name.ensures at
    (subst (λ pieces. Sends (g.W.Sink.log c.args.writer.now) (g.W.Sink.log c.add_pieces.new.writer) c.args.buffer.now c.add_pieces.new.buffer c.add_pieces.result (pieces_text pieces))
    c.as_slice.ensures c.add_pieces.ensures)
