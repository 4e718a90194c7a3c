use Rattle.std.specs.Prelude.{◌≡◌, length, take}
use Rattle.csv.specs.Records.{fields_of}
use Rattle.text_trace.specs.Room.{bits_of}
use Rattle.text_trace.specs.Stimulus.{given_by}
use Rattle.text_trace.proofs.row.give_columns.Given as goal

abbrev pub invariant-loop-number : goal.invariant-loop-number
invariant-loop-number l = (length l.image ≡ length l.fn.image) × (l.image ≡ given_by (take l.number l.columns) (bits_of (fields_of l.row)) l.fn.image)
