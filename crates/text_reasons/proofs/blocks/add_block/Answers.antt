use Rattle.std.proofs.Common.{◌+◌, ◌-◌, refl}
use Rattle.io_text.proofs.Sending.{sends_last}
use Rattle.text_reasons.specs.Blocks.{above_cell, below_cell, block_text, must_be}
use Rattle.text_reasons.proofs.Quoting.{first_failed}
use Rattle.text_reasons.proofs.blocks.add_block.Goals as goal

pub returns-in_err-add_must_be : goal.returns-in_err-add_must_be
returns-in_err-add_must_be g c = first_failed _ _ _ _ (block_text c.args.cell.now c.args.line c.args.column) (must_be (below_cell c.args.cell.now) (c.args.line + 2) c.args.column) (must_be (above_cell c.args.cell.now) (c.args.line - 2) c.args.column) _ c.from_residual.ensures.0 refl (rw c.below_cell.ensures at c.in_err-add_must_be.ensures)

pub returns : goal.returns
returns g c = sends_last _ _ _ _ _ _ (block_text c.args.cell.now c.args.line c.args.column) (must_be (below_cell c.args.cell.now) (c.args.line + 2) c.args.column) (must_be (above_cell c.args.cell.now) (c.args.line - 2) c.args.column) _ refl (rw c.below_cell.ensures at c.in_ok-add_must_be.ensures) (rw (c.above_cell.ensures, c.saturating_sub.ensures) at c.add_must_be-2.ensures)
