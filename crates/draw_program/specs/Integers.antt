-- Private: the variables that stand for the values of an INT, among those of a drawing.
use Rattle.std.specs.Prelude.{◌≡◌, false, List, [], ◌∷◌, Option, Some, None}
use Rattle.diagram_declarations.specs.declared.decls.Var.{Var}
use Rattle.diagram_declarations.specs.Decls.{is_input}
use Rattle.st_integers.specs.declared.value.IntegerValue.{IntegerValue}

-- A variable that stands for a value is no input.
abbrev pub IsNoInput : Option IntegerValue → Var → Type 0
IsNoInput (Some of) v = is_input v ≡ false
IsNoInput None v = Unit {0}

-- The drawing has all these variables, and those that stand for a value are no inputs.
abbrev pub AreNoInputs : List (Option IntegerValue) → List Var → Type 0
AreNoInputs [] vs = Unit {0}
AreNoInputs (x ∷ xs) [] = ⊥
AreNoInputs (x ∷ xs) (v ∷ vs) = IsNoInput x v × AreNoInputs xs vs
