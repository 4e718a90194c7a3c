-- The variables that the arguments COIL and INPUT.. name. An argument names a variable whatever its letter case.
use Rattle.std.specs.Prelude.{◌≡◌, ℕ, ◌+◌, Bool, true, false, List, Option, Some, None, is_none, map, position, if◌then◌else◌}
use Rattle.diagram_declarations.specs.declared.decls.Symbol.TheVariants as symbol
use Rattle.diagram_declarations.specs.Decls.{Declared, find, is_input}
use Rattle.causes_query.specs.Assignment.{input_variables}
use Rattle.diagram_declarations.specs.Name.{is_name}

-- the variable with this name, by its number in order of declaration
abbrev pub variable_of : Declared → List ℕ → Option ℕ
variable_of decls word = elim (if is_name word then find decls word else None) [ Some (symbol.Var number) ↦ Some number | _ ↦ None ]

abbrev pub AreVariables : Declared → List (List ℕ) → List ℕ → Type 0
AreVariables decls words vars = map (variable_of decls) words ≡ map Some vars

-- The listed inputs: those that are named, or all of them, in order of declaration.
abbrev pub AreListed : Declared → Bool → List (List ℕ) → List ℕ → Type 0
AreListed decls true words vars = vars ≡ input_variables (map is_input decls.vars)
AreListed decls false words vars = AreVariables decls words vars

-- The word of this number, counted from 1, is the first that names no variable.
abbrev pub IsUnknownWord : Declared → List (List ℕ) → ℕ → Type 0
IsUnknownWord decls words number = (at : ℕ) × (position (λ word. is_none (variable_of decls word)) words ≡ Some at) × (number ≡ at + 1)
