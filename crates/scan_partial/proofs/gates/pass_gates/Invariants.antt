use Rattle.std.proofs.Common.{◌≡◌, drop}
use Rattle.diagram_program.specs.Gates.{gates_of}
use Rattle.scan_cycle.specs.Programs.{diagram_of}
use Rattle.scan_partial.specs.Evaluating.{ran_in}
use Rattle.scan_partial.proofs.gates.pass_gates.Given as goal

abbrev pub invariant-loop-gate : goal.invariant-loop-gate
invariant-loop-gate g l =
    let o = g.S.Operations.algebra in
    let w = g.B.Keep.keeping in
    let s = l.scene in
    let d = diagram_of s.program.now in
    let gates = gates_of s.program.now s.rung in
    ran_in o w d s.now s.rung l.seen l.known (drop l.gate-index gates) l.links ≡ ran_in o w d s.now s.rung l.seen l.known gates l.fn.links
