use Rattle.std.proofs.Common.{◌≡◌, ◌++◌, length, map}
use Rattle.clp_project.specs.Tables.{expression_of, expressions_in}
use Rattle.clp_project.proofs.table.expressions_in.Given as goal

abbrev pub invariant-loop-lines : goal.invariant-loop-lines
invariant-loop-lines l = expressions_in (map (λ x. x.now) l.initial.lines) ≡ map expression_of l.expressions.items ++ expressions_in (map (λ x. x.now) l.lines)

abbrev pub decreases-loop-lines : goal.decreases-loop-lines
decreases-loop-lines l = length l.lines
