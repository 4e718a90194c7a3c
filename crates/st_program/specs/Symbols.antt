-- What a program declares, and what a name stands for.
use Rattle.std.specs.Prelude.{◌≡◌, ℕ, true, List, [], ◌∷◌, ◌++◌, Option, Some, None, length, map, position}
use Rattle.diagram_declarations.specs.Name.{has_name_form, same_letters}
use Rattle.st_words.specs.declared.word.Word.{Word}
use Rattle.st_words.specs.Places.{spelled}
use Rattle.st_program.specs.declared.mark.Mark.TheVariants as mark
use Rattle.st_integers.specs.declared.value.IntegerValue.{IntegerValue}
use Rattle.st_program.specs.declared.symbols.Sort.{Sort}
use Rattle.st_program.specs.declared.symbols.Sort.TheVariants as sort
use Rattle.st_program.specs.declared.symbols.StVariable.{StVariable}
use Rattle.st_program.specs.declared.symbols.Block.{Block}
use Rattle.st_program.specs.declared.symbols.Symbols.{Symbols}
use Rattle.st_program.specs.declared.symbols.Declared.{Declared}
use Rattle.st_program.specs.declared.symbols.Declared.TheVariants as declared
use Rattle.st_program.specs.Marks.{mark_of}

-- the variables and blocks, each in order of declaration
pub record Table : Type 0 where
  pub variables : List StVariable
  pub blocks : List Block

abbrev pub table : Symbols → Table
table symbols = record { variables = symbols.variables.items; blocks = symbols.blocks.items }

-- A word that can be declared: a letter or an underscore, then letters, digits and underscores, and no keyword.
abbrev pub IsName : List ℕ → Type 0
IsName word = (has_name_form word ≡ true) × (mark_of word ≡ mark.Other)

-- the number of the variable with a name, whatever the case of its letters
abbrev pub variable_of : (text : List ℕ) → List StVariable → List ℕ → Option ℕ
variable_of text variables name = position (λ v. same_letters name (spelled text v.name)) variables

-- the same of blocks
abbrev pub block_of : (text : List ℕ) → List Block → List ℕ → Option ℕ
block_of text blocks name = position (λ b. same_letters name (spelled text b.name)) blocks

-- The word is a name that isn't declared.
abbrev pub IsFresh : (text : List ℕ) → Table → Word → Type 0
IsFresh text t name =
    IsName (spelled text name) × (variable_of text t.variables (spelled text name) ≡ None) × (block_of text t.blocks (spelled text name) ≡ None)

-- a value of an INT, which goes by the number of the variable that stands where it is declared
abbrev pub value_of : (integer n : ℕ) → Sort
value_of integer n = sort.Value (record { integer = integer; value = n })

-- the table with one name more
abbrev pub added : Table → Word → Declared → Table
added t name (declared.Variable section address initial sort) =
    record { variables = t.variables ++ record { name = name; section = section; address = address; initial = initial; sort = sort } ∷ []; blocks = t.blocks }
added t name (declared.Integer section initial) =
    let value = value_of (length t.variables) initial in
    record { variables = t.variables ++ record { name = name; section = section; address = None; initial = true; sort = value } ∷ []; blocks = t.blocks }
added t name (declared.Block kind preset) =
    record { variables = t.variables; blocks = t.blocks ++ record { name = name; kind = kind; preset = preset } ∷ [] }

-- what a variable stands for, where it is one of an INT
abbrev pub integer_value : Sort → Option IntegerValue
integer_value (sort.Value v) = Some v
integer_value _ = None

abbrev pub integer_values : List StVariable → List (Option IntegerValue)
integer_values variables = map (λ v. integer_value v.sort) variables
