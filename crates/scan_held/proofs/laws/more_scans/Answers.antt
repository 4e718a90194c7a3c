use Rattle.scan_held.proofs.FirstScans.{more_scans}
use Rattle.scan_held.proofs.laws.more_scans.Goals as goal

pub returns : goal.returns
returns c = more_scans
