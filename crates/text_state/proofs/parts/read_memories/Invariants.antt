use Rattle.std.specs.Prelude.{◌≡◌, ◌≤◌, List, length}
use Rattle.diagram_program.specs.Program.{memories_of}
use Rattle.io_text.specs.Left.{Fields, IsPlain, Left}
use Rattle.scan_cycle.specs.Standing.{with_memories}
use Rattle.text_state.specs.Parts.{IsRead, memory_places_before, memory_records}
use Rattle.text_state.proofs.parts.read_memories.Given as goal

abbrev pub invariant-loop-place : goal.invariant-loop-place
invariant-loop-place l =
    IsPlain l.records
    × (length l.state.held.kept.memories ≡ memories_of l.program)
    × (l.state ≡ with_memories l.fn.state l.state.held.kept.memories)
    × (length (memory_places_before l.program l.place) ≡ l.number)
    × (l.number ≤ l.place)
    × ((rows : List Fields) → Left l.fn.records rows → IsRead memory_records (memory_places_before l.program l.place) l.state.held.kept.memories rows l.records)
