use Rattle.scan_cycle.specs.Programs.{diagram_of}
use Rattle.diff_cases.proofs.Settling.{settled_alike}
use Rattle.diff_cases.proofs.laws.settled_alike.Goals as goal

pub returns : goal.returns
returns c =
    let p = c.args.old.now in
    let q = c.args.new.now in
    settled_alike p q (λ now. c.scan_keeps.ensures (record { now = now }) (diagram_of p)) (λ now. c.scan_keeps.ensures (record { now = now }) (diagram_of q))
    c.known_is_scan.ensures c.known_is_scan-2.ensures
