use Rattle.scan_cycle.specs.Programs.{diagram_of, IsSound}
use Rattle.scan_cycle.proofs.ByList.{follows}
use Rattle.scan_cycle.proofs.laws.scan_follows_jumps.Goals as goal

pub returns : goal.returns
returns c =
    let d = diagram_of c.args.program.now in
    let is : IsSound d = c.checked.ensures in
    follows d is.forward
