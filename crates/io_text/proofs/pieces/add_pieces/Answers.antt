use Rattle.std.proofs.Common.{◌+◌, ◌∙◌, append_assoc, drop, get_or, sym, take}
use Rattle.io_text.specs.Pieces.{piece_text, pieces_text}
use Rattle.io_text.proofs.PieceLaws.{pieces_text-cut, pieces_text-take}
use Rattle.io_text.proofs.Sending.{sends_prefix, sends_more, sends_same, sends_err}
use Rattle.io_text.proofs.pieces.add_pieces.Goals as goal

pub loop-piece-preserved : goal.loop-piece-preserved
loop-piece-preserved g c =
    let ps = c.args.pieces.now in
    let i = c.loop-piece.piece-index in
    sends_same _ _ _ _ _ _ (sym (pieces_text-take ps i _ c.loop-piece-test.true))
    (sends_more _ _ _ _ _ _ (pieces_text (take i ps)) _ c.loop-piece.invariant c.in_ok-add_piece.ensures)

pub returns-in_err-add_piece : goal.returns-in_err-add_piece
returns-in_err-add_piece g c = sends_err _ _ _ _ _ _ c.from_residual.ensures.0
    (let ps = c.args.pieces.now in
    let i = c.loop-piece.piece-index in
    sends_prefix _ _ _ _ _ (pieces_text ps) (pieces_text (take i ps)) _ (pieces_text (drop (i + 1) ps))
    (pieces_text-cut ps i _ c.loop-piece-test.true ∙ append_assoc (pieces_text (take i ps)) (piece_text (get_or ps i _)) (pieces_text (drop (i + 1) ps)))
    c.loop-piece.invariant c.in_err-add_piece.ensures)
