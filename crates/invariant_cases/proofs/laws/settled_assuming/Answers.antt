use Rattle.scan_cycle.specs.Programs.{diagram_of}
use Rattle.invariant_cases.proofs.Settling.{settled_assuming}
use Rattle.invariant_cases.proofs.laws.settled_assuming.Goals as goal

pub returns : goal.returns
returns c =
    let d = diagram_of c.args.program.now in
    settled_assuming c.args.program.now (λ now. c.scan_keeps.ensures (record { now = now }) d) c.known_is_scan.ensures
