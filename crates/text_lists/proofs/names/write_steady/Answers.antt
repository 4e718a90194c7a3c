use Rattle.text_lists.specs.SteadyText.{steady_text}
use Rattle.io_text.proofs.Sending.{flush_all, flush_prefix, puts_err}
use Rattle.text_lists.proofs.names.write_steady.Goals as goal

pub returns-in_err-flush-clause-wrote : goal.returns-in_err-flush-clause-wrote
returns-in_err-flush-clause-wrote g c = puts_err _ _ _ _ c.from_residual-in_err-flush.ensures.0 (flush_prefix _ _ _ _ (steady_text c.args.program.now c.args.set.now c.args.value) (rw c.new-buffer.ensures at c.in_ok-rows.ensures.sends) c.in_err-flush.ensures.wrote)

pub returns-clause-wrote : goal.returns-clause-wrote
returns-clause-wrote g c =
    flush_all _ _ _ _ (steady_text c.args.program.now c.args.set.now c.args.value) (rw c.new-buffer.ensures at c.in_ok-rows.ensures.sends) c.in_ok-flush.ensures.wrote
