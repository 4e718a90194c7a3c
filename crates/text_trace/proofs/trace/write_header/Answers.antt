use Rattle.io_text.proofs.Sending.{flush_all, flush_prefix, puts_err}
use Rattle.text_trace.specs.Trace.{trace_header}
use Rattle.text_trace.proofs.trace.write_header.Goals as goal

pub returns-in_err-add_header-clause-wrote : goal.returns-in_err-add_header-clause-wrote
returns-in_err-add_header-clause-wrote g c = puts_err _ _ _ _ c.from_residual.ensures.0 (rw c.requires at c.in_err-add_header.ensures)

pub returns-in_err-flush-clause-wrote : goal.returns-in_err-flush-clause-wrote
returns-in_err-flush-clause-wrote g c = puts_err _ _ _ _ c.from_residual-in_err-flush.ensures.0 (flush_prefix _ _ _ _ (trace_header c.args.program.now) (rw c.requires at c.in_ok-add_header.ensures) c.in_err-flush.ensures.wrote)

pub returns-clause-wrote : goal.returns-clause-wrote
returns-clause-wrote g c =
    flush_all _ _ _ _ (trace_header c.args.program.now) (rw c.requires at c.in_ok-add_header.ensures) c.in_ok-flush.ensures.wrote
