-- Private: the inputs of what is assumed, by their places in order of declaration. Past the last one there is none, and OFF.
use Rattle.std.specs.Prelude.{ℕ, Bool, false, List, map, slice_index_or}
use Rattle.scan_signals.specs.Words.{words}
use Rattle.scan_signals.specs.declared.tri.Tri.{Tri}
use Rattle.scan_signals.specs.declared.tri.Tri.TheVariants.{Off, Unsure}
use Rattle.scan_signals.specs.declared.word.Word64.{Word64}
use Rattle.causes_any_state.specs.Numbers.{known_by, prefix_bit}

-- with a number given, but for its last bits: an input that is not listed is open
abbrev pub open_input : (inputs listed : List ℕ) → ℕ → ℕ → ℕ → Tri
open_input inputs listed open_bits n place = slice_index_or (map (λ var. known_by (prefix_bit listed open_bits n var) Unsure) inputs) place Off

-- in a state
abbrev pub stored_inputs : List ℕ → List Bool → List Bool
stored_inputs inputs values = map (λ var. slice_index_or values var false) inputs

-- with the numbers of a block, place by place
abbrev pub block_input : List Word64 → ℕ → Word64
block_input image place = slice_index_or image place (words.known false)
