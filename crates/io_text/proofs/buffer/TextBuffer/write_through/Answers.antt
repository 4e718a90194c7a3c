use Rattle.io_text.proofs.Sending.{sends_through}
use Rattle.io_text.proofs.buffer.TextBuffer.write_through.Goals as goal

pub returns-then-piece-gt-BLOCK : goal.returns-then-piece-gt-BLOCK
returns-then-piece-gt-BLOCK g c = rw c.flush.ensures.empty (sends_through _ _ _ c.args.self.now c.args.piece.now c.put.result c.in_ok-flush.ensures.wrote c.put.ensures)
