use Rattle.std.proofs.Common.{◌<◌, ◌+◌, ℕ, drop}
use Rattle.std.specs.Prelude.{All, slice_index_or}
use Rattle.diagram_declarations.specs.declared.decls.Symbol.{Symbol}
use Rattle.invariant_sets.specs.Beginning.{HasEach}
use Rattle.invariant_cases.specs.Allowing.{AreApart}
use Rattle.invariant_sets.specs.Pairs.{IsPairOutside}
use Rattle.invariant_sets.proofs.first_pairs.begin.Given as goal

abbrev pub invariant-loop-number : goal.invariant-loop-number
invariant-loop-number l = record {
  outside : All (IsPairOutside l.program l.set) l.pairs.items;
  apart : AreApart l.pairs.items l.state.held;
  each : (i : ℕ) (d : Symbol) → i < l.number
      → HasEach l.state.held l.after l.pairs.items (slice_index_or l.symbols.items i d) (drop (i + 1) l.symbols.items);
}
