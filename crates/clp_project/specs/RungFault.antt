-- Why the parts of rungs can't be read.
use Rattle.std.specs.Prelude.{◌≡◌, ◌⊎◌, ℕ, List, Result, Err}
use Rattle.clp_project.specs.declared.fault.ClpFault.{ClpFault}
use Rattle.clp_project.specs.declared.fault.ClpFault.TheVariants.{Memory, BadRung}
use Rattle.clp_project.specs.Rungs.{RungRead}

-- Out of memory, or the number of the first part that is no rung.
abbrev pub IsRungFault : Result (List RungRead) ℕ → ClpFault → Type 0
IsRungFault read fault = (fault ≡ Memory) ⊎ ((number : ℕ) × (fault ≡ BadRung number) × (read ≡ Err number))
