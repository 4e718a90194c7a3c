use Rattle.std.proofs.Common.{◌≡◌, map, take}
use Rattle.diff_runs.specs.Pulling.{pulled_scan}
use Rattle.diff_runs.proofs.pulling.pulled.Given as goal

abbrev pub invariant-loop-number : goal.invariant-loop-number
invariant-loop-number l = l.scans.items ≡ map (pulled_scan l.places) (take l.number l.run)
