use Rattle.scan_cycle.specs.Programs.{diagram_of, IsSound}
use Rattle.scan_symbolic.proofs.LookLaws.{look_is_scan}
use Rattle.scan_symbolic.proofs.laws.look_is_scan.Goals as goal

pub returns : goal.returns
returns c =
    let d = diagram_of c.args.program.now in
    let is : IsSound d = c.checked.ensures in
    look_is_scan d is.once is.forward
