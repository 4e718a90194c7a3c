use Rattle.std.specs.Prelude.{◌≡◌, ◌<◌, ℕ, [], length, get_or}
use Rattle.csv.specs.Records.{fields_of}
use Rattle.text_expected.proofs.comparing.same_record.Given as goal

abbrev pub invariant-loop-number : goal.invariant-loop-number
invariant-loop-number l = (length (fields_of l.row) ≡ length (fields_of l.other))
    × ((k : ℕ) → k < l.number → get_or (fields_of l.row) k [] ≡ get_or (fields_of l.other) k [])
