-- Why there is no list of differences over several scans.
use Rattle.std.specs.Prelude.{◌≡◌, None}
use Rattle.causes_query.specs.Causes.{Question}
use Rattle.scan_held.specs.HeldRefusal.{held_reason, held_refusal}
use Rattle.scan_held.specs.declared.scans.Scans.{Scans}
use Rattle.diff_held.specs.declared.fault.HeldDifferenceFault.{HeldDifferenceFault}
use Rattle.diff_held.specs.declared.fault.HeldDifferenceFault.TheVariants.{Old, New}

-- It is the first rule that the question to the old program breaks; or that one breaks none, and it is the first that the question to the new
-- program breaks. Being out of memory is no rule.
abbrev pub IsRefusedBy : Question → Question → Scans → HeldDifferenceFault → Type 0
IsRefusedBy old new s (Old fault) = held_refusal old s ≡ held_reason fault
IsRefusedBy old new s (New fault) = (held_refusal old s ≡ None) × (held_refusal new s ≡ held_reason fault)
