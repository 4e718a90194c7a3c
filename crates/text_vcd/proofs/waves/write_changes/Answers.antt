use Rattle.io_text.proofs.Sending.{flush_all, flush_prefix, puts_err}
use Rattle.text_vcd.specs.Waves.{change_text}
use Rattle.text_vcd.proofs.waves.write_changes.Goals as goal

pub returns-in_err-add_changes-clause-wrote : goal.returns-in_err-add_changes-clause-wrote
returns-in_err-add_changes-clause-wrote g c = puts_err _ _ _ _ c.from_residual.ensures.0 (rw c.requires at c.in_err-add_changes.ensures)

pub returns-in_err-flush-clause-wrote : goal.returns-in_err-flush-clause-wrote
returns-in_err-flush-clause-wrote g c = puts_err _ _ _ _ c.from_residual-in_err-flush.ensures.0 (flush_prefix _ _ _ _ (change_text c.args.program.now c.args.before.now c.args.after.now) (rw c.requires at c.in_ok-add_changes.ensures) c.in_err-flush.ensures.wrote)

pub returns-clause-wrote : goal.returns-clause-wrote
returns-clause-wrote g c =
    flush_all _ _ _ _ (change_text c.args.program.now c.args.before.now c.args.after.now) (rw c.requires at c.in_ok-add_changes.ensures) c.in_ok-flush.ensures.wrote
