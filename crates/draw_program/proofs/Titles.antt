-- A short word is all of its start.
use Rattle.std.proofs.Common.{◌≡◌, ℕ, ◌≤◌, List, length, sym}
use Rattle.std.proofs.lemmas.List.{take_all}
use Rattle.diagram_declarations.specs.declared.title.TheConstants.{LONGEST_TITLE}
use Rattle.draw_program.specs.Declarations.{shown_of}

pub whole_word : (word : List ℕ) → length word ≤ LONGEST_TITLE → word ≡ shown_of word
whole_word word le = sym (take_all LONGEST_TITLE word le)
