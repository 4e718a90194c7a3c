use Rattle.std.proofs.Common.{◌≡◌, drop}
use Rattle.diagram_program.specs.Gates.{gates_of}
use Rattle.scan_cycle.specs.Programs.{diagram_of}
use Rattle.scan_cycle.specs.Gating.{ran}
use Rattle.scan_cycle.proofs.gates.pass_gates.Given as goal

abbrev pub invariant-loop-gate : goal.invariant-loop-gate
invariant-loop-gate g l =
    let o = g.S.Operations.algebra in
    let s = l.scene in
    let d = diagram_of s.program.now in
    let gates = gates_of s.program.now s.rung in
    ran o d l.storage.kept s.now s.rung l.seen (drop l.gate-index gates) l.links ≡ ran o d l.storage.kept s.now s.rung l.seen gates l.fn.links
