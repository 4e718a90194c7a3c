use Rattle.std.proofs.Common.{◌<◌, arith, length}
use Rattle.scan_partial.proofs.Filled.{filled_more}
use Rattle.scan_partial.proofs.filling.know_blocks.Goals as goal

pub loop-inst-preserved : goal.loop-inst-preserved
loop-inst-preserved g c =
    let within : c.loop-inst.inst < length c.loop-inst.blocks = omega arith in
    filled_more g.B.Keep.keeping.stored c.args.state.now.held.kept.blocks c.loop-inst.blocks c.loop-inst.inst c.block.result c.stored.result
    c.loop-inst.invariant c.block.ensures within c.stored.ensures
