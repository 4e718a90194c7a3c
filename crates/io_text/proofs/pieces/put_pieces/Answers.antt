use Rattle.io_text.specs.Pieces.{pieces_text}
use Rattle.io_text.proofs.Sending.{flush_last}
use Rattle.io_text.proofs.pieces.put_pieces.Goals as goal

pub returns : goal.returns
returns g c =
    flush_last _ _ _ _ (pieces_text c.args.pieces.now) _ (rw c.new-buffer.ensures at c.in_ok-add_pieces.ensures) c.flush.ensures.wrote
