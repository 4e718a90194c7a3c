use Rattle.std.proofs.Common.{All}
use Rattle.clp_import.specs.Refusals.{IsThere}
use Rattle.clp_import.proofs.refusal.add_rung.Given as goal

abbrev pub invariant-loop-place : goal.invariant-loop-place
invariant-loop-place l = All (IsThere l.reading l.project) l.refusals.items
