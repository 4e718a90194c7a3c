use Rattle.std.proofs.Common.{◌≡◌, ◌<◌, ℕ, [], map, length, get_or}
use Rattle.csv.specs.Records.{fields_of}
use Rattle.io_text.proofs.row.is_record.Given as goal

abbrev pub invariant-loop-number : goal.invariant-loop-number
invariant-loop-number l = (length (fields_of l.row) ≡ length l.fields)
    × ((k : ℕ) → k < l.number → get_or (fields_of l.row) k [] ≡ get_or (map (λ f. f.now) l.fields) k [])
