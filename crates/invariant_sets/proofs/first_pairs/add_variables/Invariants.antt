use Rattle.std.proofs.Common.{◌<◌, ℕ}
use Rattle.std.specs.Prelude.{All, Contains}
use Rattle.diagram_declarations.specs.declared.decls.Symbol.TheVariants as symbol
use Rattle.invariant_sets.specs.Pairs.{IsOutside}
use Rattle.invariant_sets.proofs.first_pairs.add_variables.Given as goal

abbrev pub invariant-loop-var : goal.invariant-loop-var
invariant-loop-var l = record {
  outside : All (IsOutside l.program l.set) l.symbols.items;
  all : (v : ℕ) → v < l.var → IsOutside l.program l.set (symbol.Var v) → Contains l.symbols.items (symbol.Var v);
}
