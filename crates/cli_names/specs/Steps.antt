-- Private to the proofs: what the parts of an advice give.
use Rattle.std.specs.Prelude.{◌≡◌, ℕ, Bool, true, false, List, [], Result, Ok, Err, drop}
use Rattle.std.specs.Borrow.{Bor}
use Rattle.csv.specs.declared.reader.Reader.{Reader}
use Rattle.io_text.specs.Left.{Fields, Left}
use Rattle.io_text.specs.declared.fault.WriteFault.{WriteFault}
use Rattle.cli_names.specs.declared.fault.AdviceFault.{AdviceFault}
use Rattle.cli_names.specs.declared.fault.AdviceFault.TheVariants as advice_fault
use Rattle.cli_names.specs.declared.words.Word as declared
use Rattle.cli_names.specs.Words.{Word}

-- a word as the definitions have it
abbrev pub seen : declared.Word → Word
seen w = record { wanted = w.wanted; text = w.text.now }

-- how it came out that an advice was written
abbrev pub told : Result Unit WriteFault → Result Bool AdviceFault
told (Ok u) = Ok true
told (Err f) = Err advice_fault.Write

-- The first two of these records were passed, or there are no more.
abbrev pub PassesTwo : List Fields → Bool → Reader (Bor (List ℕ)) → Type 0
PassesTwo rows true new = Left new (drop 2 rows)
PassesTwo rows false new = drop 2 rows ≡ []
