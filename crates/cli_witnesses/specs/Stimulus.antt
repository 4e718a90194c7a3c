-- The stimulus of a witness: one scan of each program, at the moment at which it shows the difference.
use Rattle.std.specs.Prelude.{◌∷◌, ℕ, false, List, [], codes, decimal, map, option_map, slice_get, slice_index_or, unwrap_or}
use Rattle.diagram_program.specs.Program.{Drawing}
use Rattle.io_text.specs.Left.{Fields}
use Rattle.io_text.specs.Text.{bit_text, lines_text}
use Rattle.scan_cycle.specs.Standing.{Standing}
use Rattle.diff_matching.specs.Matching.{Matching}
use Rattle.diff_matching.specs.declared.matching.Pair.{Pair}
use Rattle.diff_meaning.specs.declared.verdict.TheConstants.{MOMENT}

-- the name of a variable, by its number, whatever it is printed as: stimuli are read by names
abbrev pub declared_name : Drawing → ℕ → List ℕ
declared_name p var = unwrap_or (option_map (λ v. v.name) (slice_get p.decls.vars var)) []

-- the word for the moment, and the names in the old program of the inputs that belong together
abbrev pub header : Drawing → Matching → Fields
header p m = codes "moment" ∷ map (λ (x : Pair). declared_name p x.old) m.inputs

-- the moment, and the values that a state of the old program stores of them; the state of the new program stores the same
abbrev pub scan_record : Matching → Standing → Fields
scan_record m s = decimal MOMENT ∷ map (λ (x : Pair). bit_text (slice_index_or s.held.values x.old false)) m.inputs

abbrev pub stimulus_text : Drawing → Matching → Standing → List ℕ
stimulus_text p m s = lines_text (header p m ∷ scan_record m s ∷ [])
