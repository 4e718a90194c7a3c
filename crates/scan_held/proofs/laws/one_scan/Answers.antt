use Rattle.scan_held.proofs.FirstScans.{one_scan}
use Rattle.scan_held.proofs.laws.one_scan.Goals as goal

pub returns : goal.returns
returns c = one_scan
