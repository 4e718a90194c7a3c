use Rattle.std.specs.Prelude.{◌≡◌, ◌-◌, ◌≤◌, drop, take, true}
use Rattle.csv.specs.Records.{fields_of}
use Rattle.text_trace.specs.Stimulus.{are_bits}
use Rattle.text_trace.proofs.row.are_bits.Given as goal

abbrev pub invariant-loop-number : goal.invariant-loop-number
invariant-loop-number l = (1 ≤ l.number) × (are_bits (take (l.number - 1) (drop 1 (fields_of l.row))) ≡ true)
