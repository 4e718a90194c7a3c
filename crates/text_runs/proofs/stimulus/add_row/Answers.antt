use Rattle.std.proofs.Common.{◌++◌, ◌∷◌, [], codes, decimal, refl, sym, append_assoc, map}
use Rattle.io_text.specs.Text.{after_commas, bit_text, line_text}
use Rattle.io_text.proofs.Sending.{sends_prefix, sends_last, sends_more, sends_none, sends_err}
use Rattle.text_runs.proofs.stimulus.add_row.Goals as goal

pub returns-in_err-add_moment : goal.returns-in_err-add_moment
returns-in_err-add_moment g c = sends_err _ _ _ _ _ _ c.from_residual.ensures.0
    (let moment = decimal c.args.moment in
    let bits = after_commas (map bit_text c.args.inputs.now) in
    let row = line_text (decimal c.args.moment ∷ map bit_text c.args.inputs.now) in
    sends_prefix _ _ _ c.args.buffer.now c.args.buffer.now row [] moment (bits ++ codes "\n") refl
    (sends_none _ c.args.buffer.now) c.in_err-add_moment.ensures)

pub returns-in_err-add_bits : goal.returns-in_err-add_bits
returns-in_err-add_bits g c = sends_err _ _ _ _ _ _ c.from_residual-in_err-add_bits.ensures.0
    (let moment = decimal c.args.moment in
    let bits = after_commas (map bit_text c.args.inputs.now) in
    let row = line_text (decimal c.args.moment ∷ map bit_text c.args.inputs.now) in
    sends_prefix _ _ _ _ _ row moment bits (codes "\n") refl c.in_ok-add_moment.ensures
    c.in_err-add_bits.ensures)

pub returns : goal.returns
returns g c =
    let moment = decimal c.args.moment in
    let bits = after_commas (map bit_text c.args.inputs.now) in
    let row = line_text (decimal c.args.moment ∷ map bit_text c.args.inputs.now) in
    sends_last _ _ _ _ _ _ row (moment ++ bits) (codes "\n") _ (sym (append_assoc moment bits (codes "\n")))
    (sends_more _ _ _ _ _ _ moment bits c.in_ok-add_moment.ensures c.in_ok-add_bits.ensures) c.add.ensures
