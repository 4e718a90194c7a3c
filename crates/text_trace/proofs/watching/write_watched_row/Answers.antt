use Rattle.io_text.proofs.Sending.{flush_all, flush_prefix, puts_err}
use Rattle.text_trace.specs.Trace.{watched_row}
use Rattle.text_trace.proofs.watching.write_watched_row.Goals as goal

pub returns-in_err-add_watched_row-clause-wrote : goal.returns-in_err-add_watched_row-clause-wrote
returns-in_err-add_watched_row-clause-wrote g c = puts_err _ _ _ _ c.from_residual.ensures.0 (rw c.requires.empty at c.in_err-add_watched_row.ensures.sends)

pub returns-in_err-flush-clause-wrote : goal.returns-in_err-flush-clause-wrote
returns-in_err-flush-clause-wrote g c = puts_err _ _ _ _ c.from_residual-in_err-flush.ensures.0 (flush_prefix _ _ _ _ (watched_row c.args.program.now c.args.watched.now c.args.state.now) (rw c.requires.empty at c.in_ok-add_watched_row.ensures.sends) c.in_err-flush.ensures.wrote)

pub returns-clause-wrote : goal.returns-clause-wrote
returns-clause-wrote g c =
    flush_all _ _ _ _ (watched_row c.args.program.now c.args.watched.now c.args.state.now) (rw c.requires.empty at c.in_ok-add_watched_row.ensures.sends) c.in_ok-flush.ensures.wrote
