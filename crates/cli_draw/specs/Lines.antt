-- What is said of a text that isn't drawn: a line, and where it is explained a sentence after it, and the lines of the text near the place.
use Rattle.std.specs.Prelude.{◌++◌, ℕ, Bool, true, false, List, [], Option, Some, codes, decimal}
use Rattle.cli_inputs.specs.FaultLine.{numbered}
use Rattle.st_program.specs.declared.fault.Refusal.{Refusal}
use Rattle.st_program.specs.declared.fault.Refusal.TheVariants as refusal
use Rattle.st_program.specs.declared.fault.StFault.{StFault}
use Rattle.st_program.specs.declared.fault.StFault.TheVariants as st
use Rattle.draw_program.specs.declared.fault.DrawFault.{DrawFault}
use Rattle.draw_program.specs.declared.fault.DrawFault.TheVariants as fault
use Rattle.cli_draw.specs.Places.{line_number, lines_near, word_at}
use Rattle.cli_draw.specs.Sentences.{sentence}

-- a line that ends with the number of a line of the text
abbrev pub lined : List ℕ → List ℕ → Option ℕ → List ℕ
lined lead text at = numbered lead (line_number text at)

-- Private: what stands before a word.
abbrev pub gap : List ℕ → List ℕ
gap [] = []
gap word = codes " "

-- a line that ends with that number and the word at the place, where there is one
abbrev pub worded : List ℕ → List ℕ → Option ℕ → List ℕ
worded lead text at = lead ++ (decimal (line_number text at) ++ (gap (word_at text at) ++ (word_at text at ++ codes "\n")))

-- why words are no program
abbrev pub refusal_line : List ℕ → Refusal → List ℕ
refusal_line text refusal.Memory = codes "fault X7\n"
refusal_line text (refusal.Due at expected) = lined (codes "fault T2 line ") text at
refusal_line text (refusal.Name at) = worded (codes "fault T3 line ") text at
refusal_line text (refusal.Type at) = worded (codes "fault T4 line ") text at
refusal_line text (refusal.Undrawable at) = worded (codes "fault T5 line ") text at
refusal_line text (refusal.Integer at) = worded (codes "fault T5 line ") text at
refusal_line text (refusal.Member at) = worded (codes "fault T6 line ") text at
refusal_line text (refusal.Input at) = worded (codes "fault T7 line ") text at
refusal_line text (refusal.Call at) = worded (codes "fault T8 line ") text at
refusal_line text (refusal.TooMany at) = lined (codes "fault T9 line ") text at
refusal_line text (refusal.TooDeep at) = lined (codes "fault T9 line ") text at

-- why a text is no program
abbrev pub text_line : List ℕ → StFault → List ℕ
text_line text (st.Character at) = lined (codes "fault T1 line ") text (Some at)
text_line text (st.Words r) = refusal_line text r

-- why a text isn't drawn
abbrev pub fault_line : List ℕ → DrawFault → List ℕ
fault_line text fault.Memory = codes "fault X7\n"
fault_line text (fault.Text f) = text_line text f
fault_line text (fault.AlikeNames at) = worded (codes "fault T3 line ") text (Some at)
fault_line text (fault.TooManyRungs count) = numbered (codes "fault T9 rungs ") count
fault_line text (fault.TooManyVariables count) = numbered (codes "fault T9 variables ") count
fault_line text (fault.TooManyBlocks count) = numbered (codes "fault T9 blocks ") count
fault_line text fault.NotFaithful = codes "fault T10\n"

-- where words are no program
abbrev pub refusal_near : List ℕ → Refusal → List ℕ
refusal_near text refusal.Memory = []
refusal_near text (refusal.Due at expected) = lines_near text at
refusal_near text (refusal.Name at) = lines_near text at
refusal_near text (refusal.Type at) = lines_near text at
refusal_near text (refusal.Undrawable at) = lines_near text at
refusal_near text (refusal.Integer at) = lines_near text at
refusal_near text (refusal.Member at) = lines_near text at
refusal_near text (refusal.Input at) = lines_near text at
refusal_near text (refusal.Call at) = lines_near text at
refusal_near text (refusal.TooMany at) = lines_near text at
refusal_near text (refusal.TooDeep at) = lines_near text at

-- where a text is no program
abbrev pub text_near : List ℕ → StFault → List ℕ
text_near text (st.Character at) = lines_near text (Some at)
text_near text (st.Words r) = refusal_near text r

-- The lines near the place of a fault; the other faults are those of the whole text.
abbrev pub fault_near : List ℕ → DrawFault → List ℕ
fault_near text (fault.Text f) = text_near text f
fault_near text (fault.AlikeNames at) = lines_near text (Some at)
fault_near text other = []

-- the sentence and these lines, where they are asked for
abbrev pub explanation : Bool → List ℕ → DrawFault → List ℕ
explanation true text f = sentence f ++ fault_near text f
explanation false text f = []

abbrev pub fault_text : Bool → List ℕ → DrawFault → List ℕ
fault_text why text f = fault_line text f ++ explanation why text f
