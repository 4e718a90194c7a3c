use Rattle.scan_cycle.specs.Programs.{diagram_of}
use Rattle.scan_symbolic.proofs.KnownPlain.{known_is_scan}
use Rattle.scan_symbolic.proofs.partial_laws.known_is_scan.Goals as goal

pub returns : goal.returns
returns c = known_is_scan (diagram_of c.args.program.now) c.checked.ensures.forward
