use Rattle.std.proofs.Common.{◌≤◌}
use Rattle.diagram_declarations.specs.declared.decls.Symbol.TheVariants as symbol
use Rattle.invariant_cases.specs.Buffers.{KeepBuffers}
use Rattle.invariant_cases.specs.Cases.{point_of, told}
use Rattle.invariant_sets.specs.Removing.{IsLeftSo, IsLeftSoFar}
use Rattle.invariant_cases.specs.Assuming.{assumed_of}
use Rattle.invariant_sets.proofs.removing_claims.leave_variables.Given as goal

abbrev pub invariant-loop-var : goal.invariant-loop-var
invariant-loop-var l = record {
  left : IsLeftSoFar (λ var. told (point_of (symbol.Var var)) l.round.after.now)
      (λ var. IsLeftSo l.round.basis.program.now (assumed_of l.round.basis.assumption) l.round.pairs.now (symbol.Var var) l.round.after.now l.fn.buffers.case l.round.basis.scans) l.fn.variables l.variables l.removed l.var;
  few : l.removed ≤ l.var;
  buffers : KeepBuffers l.round.basis.program.now l.fn.buffers l.buffers;
}
