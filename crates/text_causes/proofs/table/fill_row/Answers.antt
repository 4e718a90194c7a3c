use Rattle.std.proofs.Common.{◌+◌, ◌-◌, ◌*◌, ◌/◌, arith, length, refl, rules}
use Rattle.text_causes.proofs.CellLaws.{four_more, row_all}
use Rattle.text_causes.proofs.table.fill_row.Goals as goal

pub loop-index-preserved : goal.loop-index-preserved
loop-index-preserved c =
    let i = c.loop-index.index in
    let m = c.four-from.result in
    four_more c.loop-index.text c.args.fours.now c.copy_from_slice.new.self c.args.listed i m (8 * m + 8 - 8 * m) (8 * i + 8 - 8 * i) c.args.group
    (omega arith) c.requires.fours (search rules) c.four-from.ensures.value c.four-from.ensures.small c.copy_from_slice.ensures.after (omega arith)
    c.requires.texts c.loop-index.invariant

pub returns : goal.returns
returns c =
    let i = c.args.listed / 4 in
    row_all c.loop-index.text c.fill_cells.new.text c.args.listed i c.loop-index.index (length c.loop-index.text - 8 * i) c.args.group refl (omega arith) (search rules) (search rules)
    c.loop-index.invariant c.fill_cells.ensures
