-- The types of function blocks that a program can have (IEC 61131-3:2013, 6.6.3.5).
use Rattle.std.specs.Prelude.{ℕ, Bool, ◌||◌, if◌then◌else◌, List, [], ◌∷◌, codes}
use Rattle.std.specs.List.{list_any}
use Rattle.diagram_declarations.specs.declared.kind.BlockKind.{BlockKind}
use Rattle.diagram_declarations.specs.declared.kind.BlockKind.TheVariants as kind
use Rattle.diagram_declarations.specs.Kind.{traits_of}
use Rattle.diagram_declarations.specs.Name.{same_letters}
use Rattle.st_program.specs.declared.symbols.Sort.{Sort}
use Rattle.st_program.specs.declared.symbols.Sort.TheVariants as sort

-- the type of a trigger for falling edges, or for rising ones
abbrev pub trigger_word : (falling : Bool) → List ℕ
trigger_word falling = if falling then codes "F_TRIG" else codes "R_TRIG"

-- what the variable is that is its output
abbrev pub trigger_sort : (falling : Bool) → Sort
trigger_sort falling = if falling then sort.Falling else sort.Rising

abbrev pub standard : List BlockKind
standard = kind.Ton ∷ kind.Tof ∷ kind.Tp ∷ kind.Ctu ∷ kind.Ctd ∷ kind.Sr ∷ kind.Rs ∷ []

abbrev pub is_standard : (name : List ℕ) → Bool
is_standard name = list_any (λ k. same_letters name (traits_of k).word) standard

abbrev pub is_known_type : (name : List ℕ) → Bool
is_known_type name = same_letters name (codes "R_TRIG") || (same_letters name (codes "F_TRIG") || is_standard name)
