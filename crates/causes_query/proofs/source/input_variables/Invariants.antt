use Rattle.std.proofs.Common.{◌≡◌, false, map}
use Rattle.std.specs.Prelude.{filter, slice_index_or}
use Rattle.std.specs.List.{range_with_len}
use Rattle.diagram_declarations.specs.Decls.{is_input}
use Rattle.causes_query.proofs.source.input_variables.Given as goal

abbrev pub invariant-loop-var : goal.invariant-loop-var
invariant-loop-var l = record {
  so_far : l.inputs.items ≡ map (λ v. v) (filter (λ v. slice_index_or (map is_input l.vars) v false) (range_with_len 0 l.var));
}
