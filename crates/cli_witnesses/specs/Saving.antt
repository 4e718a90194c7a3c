-- What is written into the files of a witness.
use Rattle.std.specs.Prelude.{◌≡◌, ℕ, List, Option, None, Some}
use Rattle.io_text.specs.Log.{PutsAll, PutsPrefix, WriteLog}
use Rattle.diff_meaning.specs.declared.witness.Witness.{Witness}
use Rattle.text_state.specs.StateText.{state_text}
use Rattle.cli_witnesses.specs.Stimulus.{stimulus_text}
use Rattle.cli_witnesses.specs.Witnessed.{Witnessed}
use Rattle.cli_witnesses.specs.declared.saving.WitnessFile.{WitnessFile}
use Rattle.cli_witnesses.specs.declared.saving.WitnessFile.TheVariants.{OldState, NewState, Stimulus}

-- the text of a file: the state of the old program, that of the new one, or the stimulus
abbrev pub file_text : WitnessFile → Witnessed → Witness → List ℕ
file_text OldState j w = state_text j.old w.old_state
file_text NewState j w = state_text j.new w.new_state
file_text Stimulus j w = stimulus_text j.old j.matching w.old_state

-- A file of the witness was written; where there is no witness, nothing was.
abbrev pub Saves : WitnessFile → Witnessed → Option Witness → WriteLog → WriteLog → Type 0
Saves file j (Some w) old new = PutsAll old new (file_text file j w)
Saves file j None old new = new ≡ old

-- Its writer failed, after a part of the text.
abbrev pub BreaksSaving : WitnessFile → Witnessed → Option Witness → WriteLog → WriteLog → Type 0
BreaksSaving file j (Some w) old new = PutsPrefix old new (file_text file j w)
BreaksSaving file j None old new = ⊥
