use Rattle.std.proofs.Common.{◌≤◌}
use Rattle.diagram_declarations.specs.declared.decls.Symbol.TheVariants as symbol
use Rattle.invariant_cases.specs.Buffers.{KeepBuffers}
use Rattle.invariant_cases.specs.Cases.{point_of, told}
use Rattle.invariant_sets.specs.Removing.{IsLeftSo, IsLeftSoFar}
use Rattle.invariant_cases.specs.Assuming.{assumed_of}
use Rattle.invariant_sets.proofs.removing_claims.leave_instances.Given as goal

abbrev pub invariant-loop-inst : goal.invariant-loop-inst
invariant-loop-inst l = record {
  left : IsLeftSoFar (λ inst. told (point_of (symbol.Instance inst)) l.round.after.now)
      (λ inst. IsLeftSo l.round.basis.program.now (assumed_of l.round.basis.assumption) l.round.pairs.now (symbol.Instance inst) l.round.after.now l.fn.buffers.case l.round.basis.scans) l.fn.instances l.instances l.removed l.inst;
  few : l.removed ≤ l.inst;
  buffers : KeepBuffers l.round.basis.program.now l.fn.buffers l.buffers;
}
