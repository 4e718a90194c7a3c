use Rattle.std.proofs.Common.{◌∷◌, [], codes, map, refl}
use Rattle.io_text.specs.Text.{lines_text}
use Rattle.io_text.proofs.Lines.{line_prefix}
use Rattle.io_text.proofs.Sending.{sends_last, sends_none, sends_err}
use Rattle.text_lists.specs.PairText.{pair_row, pairs_text}
use Rattle.text_lists.proofs.pairs.add_all.Goals as goal

pub returns-in_err-add_two : goal.returns-in_err-add_two
returns-in_err-add_two g c = sends_err _ _ _ _ _ _ c.from_residual.ensures.0
    (line_prefix _ _ _ c.args.buffer.now c.args.buffer.now [] _ (map (pair_row c.args.program.now) c.args.pairs.now) (codes "first" ∷ codes "second" ∷ []) refl
    (sends_none _ c.args.buffer.now) c.in_err-add_two.ensures)

pub returns : goal.returns
returns g c =
    let p = c.args.program.now in
    sends_last _ _ _ _ _ _ (pairs_text p c.args.pairs.now) _ (lines_text (map (pair_row p) c.args.pairs.now)) _ refl c.in_ok-add_two.ensures c.add_pairs.ensures
