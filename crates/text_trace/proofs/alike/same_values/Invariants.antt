use Rattle.std.specs.Prelude.{◌≡◌, false, map, slice_index_or, take}
use Rattle.text_trace.proofs.alike.same_values.Given as goal

abbrev pub invariant-loop-number : goal.invariant-loop-number
invariant-loop-number l =
    map (λ n. slice_index_or l.before.held.values n false) (take l.number l.outputs) ≡ map (λ n. slice_index_or l.after.held.values n false) (take l.number l.outputs)
