use Rattle.std.specs.Prelude.{◌≡◌, ◌*◌, false, length, map, slice_index_or, take}
use Rattle.io_text.specs.Text.{after_commas, bit_text}
use Rattle.text_trace.proofs.trace.fill_line.Given as goal

abbrev pub invariant-loop-number : goal.invariant-loop-number
invariant-loop-number l =
    (length l.line ≡ 2 * length l.outputs)
    × (take (2 * l.number) l.line ≡ after_commas (map (λ n. bit_text (slice_index_or l.state.held.values n false)) (take l.number l.outputs)))
