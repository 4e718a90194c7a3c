use Rattle.std.proofs.Common.{ℕ, ◌<◌}
use Rattle.scan_cycle.specs.Programs.{diagram_of}
use Rattle.scan_symbolic.specs.KnownScan.{kept_at}
use Rattle.scan_held.specs.Again.{PartlyAlike, StartAlike}
use Rattle.scan_held.specs.Partly.{partly}
use Rattle.scan_held.proofs.again.later_blocks.Given as goal

abbrev pub invariant-loop-inst : goal.invariant-loop-inst
invariant-loop-inst l = (k : ℕ) → k < l.inst →
    PartlyAlike (StartAlike ((diagram_of l.program).preset k) l.moment l.shift) (kept_at partly l.before k) (kept_at partly l.after k)
