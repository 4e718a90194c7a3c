use Rattle.std.specs.Prelude.{◌≡◌, ◌≤◌, ◌+◌, List, length, take}
use Rattle.io_text.specs.Left.{Fields, IsPlain, Left}
use Rattle.scan_cycle.specs.Standing.{with_blocks}
use Rattle.text_state.specs.Parts.{IsRead, block_records, each}
use Rattle.text_state.specs.StateText.{AreTold}
use Rattle.text_state.proofs.parts.read_blocks.Given as goal

abbrev pub invariant-loop-number : goal.invariant-loop-number
invariant-loop-number l =
    IsPlain l.records
    × (length l.state.held.kept.blocks ≡ length l.instances)
    × (l.state ≡ with_blocks l.fn.state l.state.held.kept.blocks)
    × AreTold l.fn.version l.instances l.state.held.kept.blocks
    × (l.last ≡ l.fn.before + length (each (block_records l.fn.version) (take l.number l.instances) l.state.held.kept.blocks))
    × (l.last ≤ l.fn.before + l.number)
    × ((rows : List Fields) → Left l.fn.records rows → IsRead (block_records l.fn.version) (take l.number l.instances) l.state.held.kept.blocks rows l.records)
