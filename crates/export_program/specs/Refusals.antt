-- Private: what is said of a text once it was written.
use Rattle.export_program.specs.declared.fault.ExportFault.{ExportFault}
use Rattle.export_program.specs.declared.fault.ExportFault.TheVariants as fault

-- The fault is one of the text, or that there is no memory.
abbrev pub IsOfText : ExportFault → Type 0
IsOfText fault.ProgramName = ⊥
IsOfText (fault.TwoNumbers variable) = ⊥
IsOfText other = Unit {0}
