-- What is known of an input by its place, where some inputs are open.
use Rattle.std.specs.Prelude.{ℕ, List, slice_index_or}
use Rattle.scan_signals.specs.declared.tri.Tri.{Tri}
use Rattle.scan_signals.specs.declared.tri.Tri.TheVariants.{Off}

-- past the last one there is none, and OFF
abbrev pub known_input : List Tri → ℕ → Tri
known_input inputs place = slice_index_or inputs place Off
