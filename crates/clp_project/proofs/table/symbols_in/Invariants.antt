use Rattle.std.proofs.Common.{◌≡◌, ◌++◌, length, map}
use Rattle.clp_project.specs.Tables.{symbol_of, symbols_in}
use Rattle.clp_project.proofs.table.symbols_in.Given as goal

abbrev pub invariant-loop-lines : goal.invariant-loop-lines
invariant-loop-lines l = symbols_in (map (λ x. x.now) l.initial.lines) ≡ map symbol_of l.symbols.items ++ symbols_in (map (λ x. x.now) l.lines)

abbrev pub decreases-loop-lines : goal.decreases-loop-lines
decreases-loop-lines l = length l.lines
