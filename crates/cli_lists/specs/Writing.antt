-- Private to the forms: what is written of a list, and what is counted of it.
use Rattle.std.specs.Prelude.{◌≡◌, ◌⊎◌, ℕ, List, Result, Ok, Err}
use Rattle.io_text.specs.Log.{PutsAll, PutsPrefix, WriteLog}
use Rattle.cli_inputs.specs.declared.fault.ToolFault.{ToolFault}
use Rattle.cli_inputs.specs.declared.fault.ToolFault.TheVariants as fault

-- What is asked may be listed, and the text was written, whole or as far as the writer took it; or it was refused, and nothing was written.
abbrev pub WritesSummed : {S : Type 0} → (Refused : ToolFault → Type 0) → (May : Type 0) → List ℕ → S → WriteLog → WriteLog → Result S ToolFault → Type 0
WritesSummed Refused May text summary out out' (Ok s) = May × (s ≡ summary) × PutsAll out out' text
WritesSummed Refused May text summary out out' (Err f) = (Refused f × (out' ≡ out)) ⊎ ((f ≡ fault.Write) × May × PutsPrefix out out' text)
