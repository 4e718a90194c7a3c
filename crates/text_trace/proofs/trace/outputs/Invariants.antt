use Rattle.text_trace.specs.Trace.{is_output}
use Rattle.text_trace.proofs.Picked.{IsPickedTo}
use Rattle.text_trace.proofs.trace.outputs.Given as goal

abbrev pub invariant-loop-number : goal.invariant-loop-number
invariant-loop-number l = IsPickedTo is_output l.vars l.number l.numbers.items
