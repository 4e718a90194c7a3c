use Rattle.std.proofs.Common.{◌++◌, [], append_assoc, codes, decimal, false, map, refl, sym}
use Rattle.std.specs.Prelude.{slice_index_or}
use Rattle.diff_matching.specs.declared.matching.Pair.{Pair}
use Rattle.diff_meaning.specs.declared.verdict.TheConstants.{MOMENT}
use Rattle.io_text.specs.Text.{after_commas, bit_text, line_text}
use Rattle.io_text.proofs.Sending.{sends_prefix, sends_last, sends_more, sends_none, sends_err}
use Rattle.cli_witnesses.specs.Stimulus.{scan_record}
use Rattle.cli_witnesses.proofs.stimulus.add_scan.Goals as goal

pub returns-in_err-add_moment : goal.returns-in_err-add_moment
returns-in_err-add_moment g c = sends_err _ _ _ _ _ _ c.from_residual.ensures.0
    (let s = c.args.state.now in
    let m = c.args.matching.now in
    let bits = after_commas (map (λ (x : Pair). bit_text (slice_index_or s.held.values x.old false)) m.inputs) in
    sends_prefix _ _ _ c.args.buffer.now c.args.buffer.now (line_text (scan_record m s)) [] (decimal MOMENT) (bits ++ codes "\n") refl
    (sends_none _ c.args.buffer.now) c.in_err-add_moment.ensures)

pub returns-in_err-add_values : goal.returns-in_err-add_values
returns-in_err-add_values g c = sends_err _ _ _ _ _ _ c.from_residual-in_err-add_values.ensures.0
    (let s = c.args.state.now in
    let m = c.args.matching.now in
    let bits = after_commas (map (λ (x : Pair). bit_text (slice_index_or s.held.values x.old false)) m.inputs) in
    sends_prefix _ _ _ _ _ (line_text (scan_record m s)) (decimal MOMENT) bits (codes "\n") refl c.in_ok-add_moment.ensures
    (rw c.inputs.ensures at c.in_err-add_values.ensures))

pub returns : goal.returns
returns g c =
    let s = c.args.state.now in
    let m = c.args.matching.now in
    let bits = after_commas (map (λ (x : Pair). bit_text (slice_index_or s.held.values x.old false)) m.inputs) in
    sends_last _ _ _ _ _ _ (line_text (scan_record m s)) (decimal MOMENT ++ bits) (codes "\n") _ (sym (append_assoc (decimal MOMENT) bits (codes "\n")))
    (sends_more _ _ _ _ _ _ (decimal MOMENT) bits c.in_ok-add_moment.ensures (rw c.inputs.ensures at c.in_ok-add_values.ensures)) c.add.ensures
