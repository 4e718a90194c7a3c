use Rattle.invariant_sets.specs.Removing.{IsThinned}
use Rattle.invariant_sets.proofs.first_claims.thin_variables.Given as goal

abbrev pub invariant-loop-var : goal.invariant-loop-var
invariant-loop-var l = IsThinned l.fn.variables l.variables l.alone.variables
