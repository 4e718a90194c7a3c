use Rattle.invariant_sets.specs.Removing.{IsThinned}
use Rattle.invariant_sets.proofs.first_claims.thin_instances.Given as goal

abbrev pub invariant-loop-inst : goal.invariant-loop-inst
invariant-loop-inst l = IsThinned l.fn.instances l.instances l.alone.instances
