use Rattle.std.proofs.Common.{All}
use Rattle.clp_import.specs.Refusals.{IsThere}
use Rattle.clp_import.proofs.refusal.refusals.Given as goal

abbrev pub invariant-loop-rung : goal.invariant-loop-rung
invariant-loop-rung l = All (IsThere l.reading l.project) l.refusals.items
