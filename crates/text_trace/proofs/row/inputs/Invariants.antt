use Rattle.std.specs.Prelude.{◌≡◌, count_by, length, take}
use Rattle.diagram_declarations.specs.Decls.{is_input}
use Rattle.text_trace.proofs.Picked.{IsPickedTo}
use Rattle.text_trace.proofs.row.inputs.Given as goal

abbrev pub invariant-loop-number : goal.invariant-loop-number
invariant-loop-number l =
    IsPickedTo is_input l.vars l.number l.numbers.items × (length l.numbers.items ≡ count_by is_input (take l.number l.vars))
