-- Private to the lists: what a request for one asks, and what is written of it.
use Rattle.std.specs.Prelude.{◌≡◌, ◌⊎◌, ℕ, List, None, Some, Result, Ok, Err}
use Rattle.causes_query.specs.Causes.{Question, question}
use Rattle.cli_inputs.specs.declared.fault.ToolFault.{ToolFault}
use Rattle.cli_inputs.specs.declared.fault.ToolFault.TheVariants.{Write}
use Rattle.io_text.specs.Log.{PutsAll, PutsPrefix, WriteLog}
use Rattle.cli_questions.specs.Ending.{Listing}
use Rattle.cli_questions.specs.declared.counting.ListCounts.{ListCounts}
use Rattle.cli_questions.specs.declared.asking.ListQuery.{ListQuery}

abbrev pub question_of : ListQuery → Question
question_of a = question a.program a.state a.moment a.coil a.inputs.items

-- A list was written in this form, whole or as far as the writer took it; or it was refused, and nothing was written.
abbrev pub Writes : Listing → (ToolFault → Type 0) → WriteLog → WriteLog → Result ListCounts ToolFault → Type 0
Writes Is Refused out out' (Ok c) = (text : List ℕ) × Is text (Some c) × PutsAll out out' text
Writes Is Refused out out' (Err f) = (Refused f × (out' ≡ out)) ⊎ ((f ≡ Write) × ((text : List ℕ) × Is text None × PutsPrefix out out' text))
