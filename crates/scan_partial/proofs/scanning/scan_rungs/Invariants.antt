use Rattle.std.proofs.Common.{◌≡◌, length, take}
use Rattle.diagram_program.specs.declared.gates.TheConstants.{LINKS}
use Rattle.scan_cycle.specs.Programs.{diagram_of}
use Rattle.scan_symbolic.specs.KnownScan.{passed}
use Rattle.scan_partial.specs.Sizes.{AreAsLong, AreRoomy}
use Rattle.scan_partial.proofs.scanning.scan_rungs.Given as goal

abbrev pub invariant-loop-rung : goal.invariant-loop-rung
invariant-loop-rung g l =
    let before = passed g.S.Operations.algebra g.B.Keep.keeping (diagram_of l.program) l.now l.fn.known l.rung in
    record {
      known : l.known ≡ before.known;
      taken : take l.rung l.taken ≡ before.taken;
      rungs : length l.taken ≡ l.program.rungs;
      start : AreRoomy l.start l.known;
      lengths : AreAsLong l.known l.fn.known;
      links : length l.links ≡ LINKS;
    }
