use Rattle.std.proofs.Common.{◌+◌, ◌-◌, arith}
use Rattle.text_causes.proofs.CellLaws.{cell_more, cells_all, cells_none}
use Rattle.text_causes.proofs.table.fill_cells.Goals as goal

pub loop-index-init : goal.loop-index-init
loop-index-init c = cells_none c.args.text.now c.args.count c.args.group

pub loop-index-preserved : goal.loop-index-preserved
loop-index-preserved c =
    let i = c.loop-index.index in
    cell_more c.loop-index.text c.args.count i (c.args.count - (i + 1)) c.cell_byte.result c.args.group (omega arith) (omega arith) (omega arith) c.cell_byte.ensures
    c.loop-index.invariant

pub returns : goal.returns
returns c = cells_all c.loop-index.text c.args.count c.loop-index.index c.args.group (omega arith) c.loop-index.invariant
