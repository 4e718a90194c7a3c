use Rattle.std.proofs.Common.{take}
use Rattle.io_text.specs.Buffer.{SendsAll}
use Rattle.io_text.specs.Pieces.{pieces_text}
use Rattle.io_text.proofs.pieces.add_pieces.Given as goal

abbrev pub invariant-loop-piece : goal.invariant-loop-piece
invariant-loop-piece g l = SendsAll (g.W.Sink.log l.fn.writer) (g.W.Sink.log l.writer) l.fn.buffer l.buffer (pieces_text (take l.piece-index l.pieces))
