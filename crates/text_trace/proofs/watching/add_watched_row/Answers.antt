use Rattle.std.proofs.Common.{◌++◌, [], codes, decimal, map}
use Rattle.io_text.specs.Text.{after_commas, bit_text}
use Rattle.io_text.proofs.Sending.{sends_prefix, sends_last, sends_more, sends_none, sends_err}
use Rattle.text_trace.specs.Trace.{is_output, values_of, watched_row}
use Rattle.text_trace.specs.Watching.{column_text}
use Rattle.text_trace.proofs.Columns.{parted, parted_behind, parted_between}
use Rattle.text_trace.proofs.watching.add_watched_row.Goals as goal

pub returns-in_err-add_moment-clause-sends : goal.returns-in_err-add_moment-clause-sends
returns-in_err-add_moment-clause-sends g c = sends_err _ _ _ _ _ _ c.from_residual.ensures.0
    (let p = c.args.program.now in
    let s = c.args.state.now in
    let bits = map bit_text (values_of is_output p.decls.vars s.held.values) in
    let columns = map (column_text p.decls s) c.args.watched.now in
    sends_prefix _ _ _ c.args.buffer.now c.args.buffer.now (watched_row p c.args.watched.now s) [] (decimal s.moment) (after_commas bits ++ (after_commas columns ++ codes "\n"))
    (parted (decimal s.moment) bits columns) (sends_none _ c.args.buffer.now) (rw c.moment.ensures at c.in_err-add_moment.ensures))

pub returns-in_err-add_bits-clause-sends : goal.returns-in_err-add_bits-clause-sends
returns-in_err-add_bits-clause-sends g c = sends_err _ _ _ _ _ _ c.from_residual-in_err-add_bits.ensures.0
    (let p = c.args.program.now in
    let s = c.args.state.now in
    let bits = map bit_text (values_of is_output p.decls.vars s.held.values) in
    let columns = map (column_text p.decls s) c.args.watched.now in
    sends_prefix _ _ _ _ _ (watched_row p c.args.watched.now s) (decimal s.moment) (after_commas bits) (after_commas columns ++ codes "\n")
    (parted (decimal s.moment) bits columns) (rw c.moment.ensures at c.in_ok-add_moment.ensures)
    c.in_err-add_bits.ensures.sends)

pub returns-in_err-add_column_values-clause-sends : goal.returns-in_err-add_column_values-clause-sends
returns-in_err-add_column_values-clause-sends g c = sends_err _ _ _ _ _ _ c.from_residual-in_err-add_column_values.ensures.0
    (let p = c.args.program.now in
    let s = c.args.state.now in
    let bits = map bit_text (values_of is_output p.decls.vars s.held.values) in
    let columns = map (column_text p.decls s) c.args.watched.now in
    sends_prefix _ _ _ _ _ (watched_row p c.args.watched.now s) (decimal s.moment ++ after_commas bits) (after_commas columns) (codes "\n")
    (parted_between (decimal s.moment) bits columns)
    (sends_more _ _ _ _ _ _ (decimal s.moment) (after_commas bits) (rw c.moment.ensures at c.in_ok-add_moment.ensures) c.in_ok-add_bits.ensures.sends)
    (rw c.decls.ensures at c.in_err-add_column_values.ensures))

pub returns-clause-sends : goal.returns-clause-sends
returns-clause-sends g c =
    let p = c.args.program.now in
    let s = c.args.state.now in
    let bits = map bit_text (values_of is_output p.decls.vars s.held.values) in
    let columns = map (column_text p.decls s) c.args.watched.now in
    sends_last _ _ _ _ _ _ (watched_row p c.args.watched.now s) ((decimal s.moment ++ after_commas bits) ++ after_commas columns) (codes "\n") _
    (parted_behind (decimal s.moment) bits columns)
    (sends_more _ _ _ _ _ _ (decimal s.moment ++ after_commas bits) (after_commas columns)
    (sends_more _ _ _ _ _ _ (decimal s.moment) (after_commas bits) (rw c.moment.ensures at c.in_ok-add_moment.ensures) c.in_ok-add_bits.ensures.sends)
    (rw c.decls.ensures at c.in_ok-add_column_values.ensures)) c.add.ensures
