use Rattle.std.proofs.Common.{◌≡◌, map, false}
use Rattle.std.specs.Prelude.{filter, slice_index_or}
use Rattle.std.specs.List.{range_with_len}
use Rattle.diagram_declarations.specs.declared.decls.Symbol.TheVariants as symbol
use Rattle.cli_views.specs.Watched.{is_memory}
use Rattle.cli_views.proofs.watched.memories.Given as goal

abbrev pub invariant-loop-var : goal.invariant-loop-var
invariant-loop-var l = l.watched.items ≡ map symbol.Var (filter (λ n. slice_index_or (map is_memory l.vars) n false) (range_with_len 0 l.var))
