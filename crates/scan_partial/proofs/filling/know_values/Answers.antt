use Rattle.std.proofs.Common.{◌<◌, arith, length}
use Rattle.scan_partial.proofs.Filled.{filled_more}
use Rattle.scan_partial.proofs.filling.know_values.Goals as goal

pub loop-var-preserved : goal.loop-var-preserved
loop-var-preserved g c =
    let within : c.loop-var.var < length c.loop-var.values = omega arith in
    filled_more g.S.Operations.algebra.known c.args.state.now.held.values c.loop-var.values c.loop-var.var c.value.result c.known.result
    c.loop-var.invariant c.value.ensures within c.known.ensures
