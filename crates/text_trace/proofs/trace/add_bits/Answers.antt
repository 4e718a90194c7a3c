use Rattle.std.proofs.Common.{◌≡◌, ◌∙◌, ap, false, map, sym}
use Rattle.std.specs.Prelude.{slice_index_or}
use Rattle.std.proofs.lemmas.Simd.{map-map}
use Rattle.io_text.specs.Text.{after_commas, bit_text}
use Rattle.text_trace.specs.Trace.{is_output, values_of}
use Rattle.text_trace.proofs.trace.add_bits.Goals as goal

pub returns-clause-sends : goal.returns-clause-sends
returns-clause-sends g c =
    let values = c.args.state.now.held.values in
    let numbers = c.args.outputs.now in
    let vars = c.args.program.now.decls.vars in
    let same : after_commas (map (λ n. bit_text (slice_index_or values n false)) numbers) ≡ after_commas (map bit_text (values_of is_output vars values)) =
    ap after_commas (sym (map-map bit_text (λ n. slice_index_or values n false) numbers) ∙ ap (map bit_text) (c.requires.picked values c.requires.fits.values)) in
    rw (c.fill_line.ensures.text, same) at c.add.ensures
