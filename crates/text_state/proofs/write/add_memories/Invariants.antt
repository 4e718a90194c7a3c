use Rattle.std.specs.Prelude.{◌≡◌, ◌≤◌, length}
use Rattle.io_text.specs.Text.{lines_text}
use Rattle.text_state.specs.Parts.{each, memory_places_before, memory_records}
use Rattle.io_text.specs.Buffer.{SendsAll}
use Rattle.text_state.proofs.write.add_memories.Given as goal

abbrev pub invariant-loop-place : goal.invariant-loop-place
invariant-loop-place g l =
    (length (memory_places_before l.program l.place) ≡ l.number)
    × (l.number ≤ l.place)
    × SendsAll (g.W.Sink.log l.fn.writer) (g.W.Sink.log l.writer) l.fn.buffer l.buffer
    (lines_text (each memory_records (memory_places_before l.program l.place) l.state.held.kept.memories))
