use Rattle.std.proofs.Common.{◌<◌, ℕ}
use Rattle.std.specs.Prelude.{All, Contains}
use Rattle.diagram_declarations.specs.declared.decls.Symbol.TheVariants as symbol
use Rattle.invariant_sets.specs.Pairs.{IsOutside}
use Rattle.invariant_sets.proofs.first_pairs.add_instances.Given as goal

abbrev pub invariant-loop-inst : goal.invariant-loop-inst
invariant-loop-inst l = record {
  outside : All (IsOutside l.program l.set) l.symbols.items;
  all : (i : ℕ) → i < l.inst → IsOutside l.program l.set (symbol.Instance i) → Contains l.symbols.items (symbol.Instance i);
  kept : All (Contains l.symbols.items) l.fn.symbols.items;
}
