use Rattle.std.specs.Prelude.{◌≡◌, false, length, map, slice_index_or, take}
use Rattle.text_trace.proofs.row.fill_inputs.Given as goal

abbrev pub invariant-loop-place : goal.invariant-loop-place
invariant-loop-place l =
    (length l.image ≡ length l.inputs)
    × (take l.place l.image ≡ map (λ n. slice_index_or l.state.held.values n false) (take l.place l.inputs))
