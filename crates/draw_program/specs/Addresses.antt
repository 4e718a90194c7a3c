-- Private: the parts of an address.
use Rattle.std.specs.Prelude.{◌≡◌, ◌⊎◌, ℕ, ◌==◌, List, [], ◌∷◌, ◌++◌, codes, Option}
use Rattle.std.specs.Map.{lookup}
use Rattle.diagram_declarations.specs.declared.decls.VarKind.{VarKind}
use Rattle.diagram_declarations.specs.declared.decls.VarKind.TheVariants as kind
use Rattle.diagram_declarations.specs.Grammar.{Is, IsNumber, IsSecond}

-- a number, and a second one where there is one
abbrev pub AreNumbers : List ℕ → ℕ × Option ℕ → Type 0
AreNumbers text x = (first second : List ℕ) × (text ≡ first ++ second) × IsNumber first x.0 × IsSecond second x.1

-- The rest is behind the size, which may be left out.
abbrev pub IsBehindSize : (text rest : List ℕ) → Type 0
IsBehindSize text rest = (size : List ℕ) × (text ≡ size ++ rest) × ((size ≡ []) ⊎ Is (codes "X") size)

-- what a variable at an address with this letter is; 73, 81 and 77 are I, Q and M
abbrev pub kind_of : ℕ → Option VarKind
kind_of letter = lookup (λ capital. letter == capital) ((73, kind.Input) ∷ (81, kind.Output) ∷ (77, kind.Memory) ∷ [])
