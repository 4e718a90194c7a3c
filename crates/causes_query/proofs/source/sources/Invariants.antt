use Rattle.std.proofs.Common.{◌≡◌, map, false}
use Rattle.std.specs.Prelude.{All, filter, slice_index_or}
use Rattle.std.specs.List.{range_with_len}
use Rattle.diagram_declarations.specs.Decls.{is_input}
use Rattle.causes_query.specs.Sources.{IsShort, source_of}
use Rattle.causes_query.proofs.source.sources.Given as goal

abbrev pub invariant-loop-var : goal.invariant-loop-var
invariant-loop-var l = record {
  so_far :
      l.sources.items ≡ map (λ var. source_of l.listed var (slice_index_or l.state.held.values var false))
      (filter (λ var. slice_index_or (map is_input l.vars) var false) (range_with_len 0 l.var));
  short : All IsShort l.sources.items;
}
