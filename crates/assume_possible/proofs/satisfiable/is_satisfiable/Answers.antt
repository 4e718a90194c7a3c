use Rattle.std.proofs.Common.{List, Bool, subst}
use Rattle.assume_possible.specs.Satisfiable.{IsUnsatisfiableFrom}
use Rattle.assume_possible.proofs.satisfiable.is_satisfiable.Goals as goal

pub returns-clause-none : goal.returns-clause-none
returns-clause-none c = λ none.
    subst (λ (known : List Bool). IsUnsatisfiableFrom known c.args.expression.now) c.new-known.ensures.items (c.in_ok-is_found.ensures.none none)
