use Rattle.std.proofs.Common.{◌≡◌}
use Rattle.scan_cycle.specs.Rung.{SameSizes}
use Rattle.scan_cycle.specs.RungByRung.{scanned}
use Rattle.scan_cycle.specs.Programs.{diagram_of}
use Rattle.scan_incremental.specs.Resting.{AllRest}
use Rattle.scan_incremental.proofs.scanning.scan_rungs.Given as goal

abbrev pub invariant-loop-rung : goal.invariant-loop-rung
invariant-loop-rung l = record {
  state : l.storage ≡ (scanned (diagram_of l.program) l.now l.fn.storage l.rung).held;
  resume : l.resume ≡ (scanned (diagram_of l.program) l.now l.fn.storage l.rung).resume;
  sizes : SameSizes l.start l.storage;
  rest : AllRest (diagram_of l.program) l.now l.storage l.next;
}
