use Rattle.scan_cycle.specs.Programs.{diagram_of}
use Rattle.scan_held.proofs.GoingOn.{goes_on_alike}
use Rattle.scan_held.proofs.later_laws.goes_on_alike.Goals as goal

pub returns : goal.returns
returns c =
    let d = diagram_of c.args.program.now in
    goes_on_alike d c.known_is_scan.ensures (λ moment wait shift. c.scan_keeps.ensures (record { moment = moment; wait = wait; shift = shift }) d)
