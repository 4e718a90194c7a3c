use Rattle.text_state.specs.StateText.{state_text}
use Rattle.io_text.proofs.Sending.{flush_all, flush_prefix, puts_err}
use Rattle.text_state.proofs.write.write_state.Goals as goal

pub returns-in_err-add_state : goal.returns-in_err-add_state
returns-in_err-add_state g c = puts_err _ _ _ _ c.from_residual.ensures.0 (rw c.new-buffer.ensures at c.in_err-add_state.ensures)

pub returns-in_err-flush : goal.returns-in_err-flush
returns-in_err-flush g c = puts_err _ _ _ _ c.from_residual-in_err-flush.ensures.0 (flush_prefix _ _ _ _ (state_text c.args.program.now c.args.state.now) (rw c.new-buffer.ensures at c.in_ok-add_state.ensures) c.in_err-flush.ensures.wrote)

pub returns : goal.returns
returns g c =
    flush_all _ _ _ _ (state_text c.args.program.now c.args.state.now) (rw c.new-buffer.ensures at c.in_ok-add_state.ensures) c.in_ok-flush.ensures.wrote
