use Rattle.scan_cycle.specs.Programs.{diagram_of}
use Rattle.scan_held.proofs.SeveralScans.{allows_scans}
use Rattle.scan_held.proofs.partly_laws.several.Goals as goal

pub returns : goal.returns
returns c =
    let d = diagram_of c.args.program.now in
    allows_scans d (λ now. c.scan_keeps.ensures (record { now = now }) d) c.known_is_scan.ensures
