use Rattle.std.proofs.Common.{◌+◌, drop, false, map, sym, take}
use Rattle.std.specs.Prelude.{slice_index_or}
use Rattle.diff_matching.specs.declared.matching.Pair.{Pair}
use Rattle.io_text.specs.Text.{after_commas, bit_text}
use Rattle.io_text.proofs.Commas.{commas_cut, commas_more}
use Rattle.io_text.proofs.Sending.{sends_err, sends_more, sends_prefix, sends_same}
use Rattle.cli_witnesses.proofs.stimulus.add_values.Goals as goal

pub loop-pair-preserved : goal.loop-pair-preserved
loop-pair-preserved g c =
    let name = λ (x : Pair). bit_text (slice_index_or c.args.state.now.held.values x.old false) in
    let pairs = c.args.inputs.now in
    let i = c.loop-pair.pair-index in
    sends_same _ _ _ _ _ _ (sym (commas_more name pairs i _ c.loop-pair-test.true))
    (sends_more _ _ _ _ _ _ (after_commas (map name (take i pairs))) _ c.loop-pair.invariant (rw (c.bit_field.ensures, c.value_or_off.ensures) at c.in_ok-add_field.ensures))

pub returns-in_err-add_field : goal.returns-in_err-add_field
returns-in_err-add_field g c = sends_err _ _ _ _ _ _ c.from_residual.ensures.0
    (let name = λ (x : Pair). bit_text (slice_index_or c.args.state.now.held.values x.old false) in
    let pairs = c.args.inputs.now in
    let i = c.loop-pair.pair-index in
    sends_prefix _ _ _ _ _ _ (after_commas (map name (take i pairs))) _ (after_commas (map name (drop (i + 1) pairs)))
    (commas_cut name pairs i _ c.loop-pair-test.true) c.loop-pair.invariant (rw (c.bit_field.ensures, c.value_or_off.ensures) at c.in_err-add_field.ensures))
