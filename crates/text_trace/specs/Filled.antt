-- A stimulus whose records are held, with scans between them: it is the stimulus that has a record for each of these scans as well.
-- Between a good record and the good one after it there is one at each moment that is so much later than the one before, as long as that is below the moment of the next record. It has the bits of the record before.
use Rattle.std.specs.Prelude.{◌∷◌, ◌++◌, ◌+◌, ◌-◌, ◌/◌, ◌^◌, ◌&&◌, ◌==◌, if◌then◌else◌, ℕ, zero, suc, Bool, List, [], Option, Some, None, Result, Ok, Err, bytes_eq, decimal, drop, get_or, length, map, nat_lt}
use Rattle.std.specs.Str.Parse.{digits_value}
use Rattle.io_text.specs.Left.{Fields}
use Rattle.text_trace.specs.declared.fault.SimFault.{SimFault}
use Rattle.text_trace.specs.declared.fault.SimFault.TheVariants as fault
use Rattle.text_trace.specs.Stimulus.{are_bits}

-- A record, with the number of a record of the file, counted from 1: its own one, or that of the record that it comes before.
pub record Numbered : Type 0 where
  pub number : ℕ
  pub fields : Fields

-- The record with this number.
abbrev pub numbered : ℕ → Fields → Numbered
numbered number fields = record { number = number; fields = fields }

-- ---- between two records

-- The field is a number below 2 ^ 64, in decimal without needless zeros.
abbrev pub is_number : List ℕ → Bool
is_number field = bytes_eq field (decimal (digits_value 10 field)) && nat_lt (digits_value 10 field) (2 ^ 64)

-- The moment of a record that is good: a number, and then so many bits.
abbrev pub moment_in : ℕ → Fields → Option ℕ
moment_in width [] = None
moment_in width (field ∷ bits) = if (length bits == width) && are_bits bits && is_number field then Some (digits_value 10 field) else None

-- How many moments come between two of them, each so much later than the one before; none where there is no time between two scans.
abbrev pub count_between : ℕ → ℕ → ℕ → ℕ
count_between zero from to = 0
count_between (suc every) from to = (to - from - 1) / suc every

-- So many records with these bits, each so much later than the one before, and the first so much later than this moment.
abbrev pub repeated : ℕ → List (List ℕ) → ℕ → ℕ → List Fields
repeated every bits moment zero = []
repeated every bits moment (suc count) = (decimal (moment + every) ∷ bits) ∷ repeated every bits (moment + every) count

-- The records between two that have these moments: they have the bits of the first. There are none where one of the two isn't good.
abbrev pub held_between : ℕ → List (List ℕ) → Option ℕ → Option ℕ → List Fields
held_between every bits (Some from) (Some to) = repeated every bits from (count_between every from to)
held_between every bits (Some from) None = []
held_between every bits None to = []

-- The records between a record and the next one.
abbrev pub between : ℕ → ℕ → Fields → Fields → List Fields
between every width last next = held_between every (drop 1 last) (moment_in width last) (moment_in width next)

-- ---- all records

-- What comes after a record: each next one, of which the first has this number, and before it those in between.
abbrev pub filled_after : ℕ → ℕ → ℕ → Fields → List Fields → List Numbered
filled_after every width number last [] = []
filled_after every width number last (next ∷ rows) =
    map (numbered number) (between every width last next) ++ (numbered number next ∷ filled_after every width (number + 1) next rows)

-- The records of a stimulus with those in between. Its header says how many bits a record has.
abbrev pub filled : ℕ → List Fields → List Numbered
filled every [] = []
filled every (header ∷ rows) = numbered 1 header ∷ filled_after every (length header - 1) 2 header rows

-- The records without their numbers.
abbrev pub all_fields : List Numbered → List Fields
all_fields records = map (λ r. r.fields) records

-- ---- the number of a record that isn't good

-- The number in the file of the record that has this number among these.
abbrev pub in_file : List Numbered → ℕ → ℕ
in_file records n = get_or (map (λ r. r.number) records) (n - 1) 1

-- The fault of the record that has this number among these tells its number in the file.
abbrev pub told_of : List Numbered → Result ℕ SimFault → Result ℕ SimFault
told_of records (Ok n) = Ok n
told_of records (Err (fault.BadRow n)) = Err (fault.BadRow (in_file records n))
told_of records (Err (fault.UnknownName n)) = Err (fault.UnknownName (in_file records n))
told_of records (Err (fault.MomentBack n)) = Err (fault.MomentBack (in_file records n))
told_of records (Err (fault.TooLong n)) = Err (fault.TooLong (in_file records n))
told_of records (Err fault.Write) = Err fault.Write
told_of records (Err fault.Memory) = Err fault.Memory
