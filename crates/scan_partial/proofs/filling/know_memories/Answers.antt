use Rattle.std.proofs.Common.{◌<◌, arith, length}
use Rattle.scan_partial.proofs.Filled.{filled_more}
use Rattle.scan_partial.proofs.filling.know_memories.Goals as goal

pub loop-number-preserved : goal.loop-number-preserved
loop-number-preserved g c =
    let within : c.loop-number.number < length c.loop-number.memories = omega arith in
    filled_more g.S.Operations.algebra.known c.args.state.now.held.kept.memories c.loop-number.memories c.loop-number.number c.memory.result c.known.result
    c.loop-number.invariant c.memory.ensures within c.known.ensures
