-- Private to the writing: which scans have a row in brief.
use Rattle.std.specs.Prelude.{◌+◌, ◌==◌, ◌||◌, ℕ, zero, suc, Bool, true, List, [], get_or, length, not}
use Rattle.scan_cycle.specs.Runs.{OneScan}
use Rattle.text_runs.specs.RunText.{gives_same}

-- the scan at a place, where there is one
abbrev pub scan_at : List OneScan → ℕ → OneScan
scan_at scans n = get_or scans n (record { moment = 0; inputs = [] })

-- The scan at this place has a row.
abbrev pub has_row : List OneScan → ℕ → Bool
has_row scans zero = true
has_row scans (suc n) = (suc n + 1 == length scans) || not (gives_same (scan_at scans n) (scan_at scans (suc n)))
