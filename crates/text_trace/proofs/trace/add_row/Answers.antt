use Rattle.std.proofs.Common.{◌++◌, [], codes, decimal, refl, sym, append_assoc, map}
use Rattle.io_text.specs.Text.{after_commas, bit_text}
use Rattle.io_text.proofs.Sending.{sends_prefix, sends_last, sends_more, sends_none, sends_err}
use Rattle.text_trace.specs.Trace.{is_output, trace_row, values_of}
use Rattle.text_trace.proofs.trace.add_row.Goals as goal

pub returns-in_err-add_moment-clause-sends : goal.returns-in_err-add_moment-clause-sends
returns-in_err-add_moment-clause-sends g c = sends_err _ _ _ _ _ _ c.from_residual.ensures.0
    (let p = c.args.program.now in
    let s = c.args.state.now in
    sends_prefix _ _ _ c.args.buffer.now c.args.buffer.now (trace_row p s) [] (decimal s.moment) (after_commas (map bit_text (values_of is_output p.decls.vars s.held.values)) ++ codes "\n") refl
    (sends_none _ c.args.buffer.now) (rw c.moment.ensures at c.in_err-add_moment.ensures))

pub returns-in_err-add_bits-clause-sends : goal.returns-in_err-add_bits-clause-sends
returns-in_err-add_bits-clause-sends g c = sends_err _ _ _ _ _ _ c.from_residual-in_err-add_bits.ensures.0
    (let p = c.args.program.now in
    let s = c.args.state.now in
    sends_prefix _ _ _ _ _ (trace_row p s) (decimal s.moment) (after_commas (map bit_text (values_of is_output p.decls.vars s.held.values))) (codes "\n") refl (rw c.moment.ensures at c.in_ok-add_moment.ensures)
    c.in_err-add_bits.ensures.sends)

pub returns-clause-sends : goal.returns-clause-sends
returns-clause-sends g c =
    let p = c.args.program.now in
    let s = c.args.state.now in
    let bits = after_commas (map bit_text (values_of is_output p.decls.vars s.held.values)) in
    sends_last _ _ _ _ _ _ (trace_row p s) (decimal s.moment ++ bits) (codes "\n") _ (sym (append_assoc (decimal s.moment) bits (codes "\n")))
    (sends_more _ _ _ _ _ _ (decimal s.moment) bits (rw c.moment.ensures at c.in_ok-add_moment.ensures) c.in_ok-add_bits.ensures.sends) c.add.ensures
