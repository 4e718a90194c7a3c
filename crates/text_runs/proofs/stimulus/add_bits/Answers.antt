use Rattle.std.proofs.Common.{◌+◌, drop, false, map, sym, take}
use Rattle.io_text.specs.Text.{after_commas, bit_text}
use Rattle.io_text.proofs.Commas.{commas_cut, commas_more}
use Rattle.io_text.proofs.Sending.{sends_err, sends_more, sends_prefix, sends_same}
use Rattle.text_runs.proofs.stimulus.add_bits.Goals as goal

pub loop-value-preserved : goal.loop-value-preserved
loop-value-preserved g c =
    let bits = c.args.inputs.now in
    let i = c.loop-value.value-index in
    sends_same _ _ _ _ _ _ (sym (commas_more bit_text bits i false c.loop-value-test.true))
    (sends_more _ _ _ _ _ _ (after_commas (map bit_text (take i bits))) _ c.loop-value.invariant (rw c.bit_field.ensures at c.in_ok-add_field.ensures))

pub returns-in_err-add_field : goal.returns-in_err-add_field
returns-in_err-add_field g c = sends_err _ _ _ _ _ _ c.from_residual.ensures.0
    (let bits = c.args.inputs.now in
    let i = c.loop-value.value-index in
    sends_prefix _ _ _ _ _ _ (after_commas (map bit_text (take i bits))) _ (after_commas (map bit_text (drop (i + 1) bits)))
    (commas_cut bit_text bits i false c.loop-value-test.true) c.loop-value.invariant (rw c.bit_field.ensures at c.in_err-add_field.ensures))
