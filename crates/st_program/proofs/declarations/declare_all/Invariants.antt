use Rattle.std.proofs.Common.{length}
use Rattle.st_program.specs.Declarations.{Adds}
use Rattle.st_program.specs.Symbols.{Table, table}
use Rattle.st_program.proofs.declarations.declare_all.Given as goal

abbrev pub invariant-loop-name : goal.invariant-loop-name
invariant-loop-name l = (t : Table) → Adds l.text l.declared l.rest (table l.symbols) t → Adds l.text l.declared l.names (table l.initial.symbols) t

abbrev pub decreases-loop-name : goal.decreases-loop-name
decreases-loop-name l = length l.rest
