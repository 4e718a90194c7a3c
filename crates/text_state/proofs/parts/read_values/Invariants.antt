use Rattle.std.specs.Prelude.{◌≡◌, List, length, take}
use Rattle.io_text.specs.Left.{Fields, IsPlain, Left}
use Rattle.scan_cycle.specs.Standing.{with_values}
use Rattle.text_state.specs.Parts.{IsRead, var_records}
use Rattle.text_state.proofs.parts.read_values.Given as goal

abbrev pub invariant-loop-number : goal.invariant-loop-number
invariant-loop-number l =
    IsPlain l.records
    × (length l.state.held.values ≡ length l.vars)
    × (l.state ≡ with_values l.fn.state l.state.held.values)
    × ((rows : List Fields) → Left l.fn.records rows → IsRead var_records (take l.number l.vars) l.state.held.values rows l.records)
