use Rattle.scan_cycle.specs.Programs.{diagram_of}
use Rattle.invariant_sets.proofs.ForEver.{stays_assuming}
use Rattle.invariant_sets.proofs.laws.stays_assuming.Goals as goal

pub returns : goal.returns
returns c =
    let d = diagram_of c.args.program.now in
    stays_assuming c.args.program.now c.checked.ensures (λ now. c.scan_keeps.ensures (record { now = now }) d) c.known_is_scan.ensures
