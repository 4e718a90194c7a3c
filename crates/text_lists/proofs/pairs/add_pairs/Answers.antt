use Rattle.std.proofs.lemmas.List.{map_more}
use Rattle.io_text.proofs.Lines.{line_more, line_prefix}
use Rattle.io_text.proofs.Sending.{sends_err}
use Rattle.text_lists.specs.PairText.{pair_row}
use Rattle.text_lists.proofs.PairRows.{map_cut}
use Rattle.text_lists.proofs.pairs.add_pairs.Goals as goal

pub loop-pair-preserved : goal.loop-pair-preserved
loop-pair-preserved g c =
    line_more _ _ _ _ _ _ _ _ _ (map_more (pair_row c.args.program.now) c.args.pairs.now c.loop-pair.pair-index _ c.loop-pair-test.true) c.loop-pair.invariant c.in_ok-add_pair.ensures

pub returns-in_err-add_pair : goal.returns-in_err-add_pair
returns-in_err-add_pair g c = sends_err _ _ _ _ _ _ c.from_residual.ensures.0
    (line_prefix _ _ _ _ _ _ _ _ _ (map_cut (pair_row c.args.program.now) c.args.pairs.now c.loop-pair.pair-index _ c.loop-pair-test.true) c.loop-pair.invariant c.in_err-add_pair.ensures)
