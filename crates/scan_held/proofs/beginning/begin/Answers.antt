use Rattle.scan_held.proofs.AllKnown.{as_long_as, all_there}
use Rattle.scan_held.proofs.beginning.begin.Goals as goal

pub know-requires : goal.know-requires
know-requires g c = as_long_as c.args.program.now c.args.state.now c.requires.state c.checked.ensures c.args.known.now c.requires.known

pub returns-clause-sizes : goal.returns-clause-sizes
returns-clause-sizes g c = all_there c.args.program.now c.args.state.now c.requires.state c.checked.ensures g.S.Operations.algebra g.B.Keep.keeping _ c.know.ensures
