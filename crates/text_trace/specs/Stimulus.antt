-- A stimulus (the profile): a header that names inputs, and then a moment and a bit for each of them.
use Rattle.std.specs.Prelude.{◌≡◌, ◌∷◌, ◌<◌, ◌==◌, ◌^◌, ◌||◌, if◌then◌else◌, ℕ, List, [], Bool, false, Option, Some, None, bytes_eq, codes, decimal, length, map, set, slice_get, take}
use Rattle.std.specs.List.{IsDistinct, count_by, list_all}
use Rattle.diagram_declarations.specs.declared.decls.Symbol.{Symbol}
use Rattle.diagram_declarations.specs.declared.decls.Symbol.TheVariants as symbol
use Rattle.diagram_declarations.specs.declared.decls.Var.{Var}
use Rattle.diagram_declarations.specs.Decls.{Declared, find, is_input, is_input_at}
use Rattle.diagram_declarations.specs.Name.{is_name}
use Rattle.io_text.specs.Left.{Fields}
use Rattle.io_text.specs.Text.{bit_text}

-- ---- the header

-- The place of a declared symbol among the inputs, in order of declaration, where it is one.
abbrev pub input_in : List Var → Option Symbol → Option ℕ
input_in vars declared = elim declared [
  | Some (symbol.Var number) ↦ if is_input_at (slice_get vars number) then Some (count_by is_input (take number vars)) else None
  | _ ↦ None
]

-- The input that a word names, in any letter case.
abbrev pub input_named : Declared → List ℕ → Option ℕ
input_named d word = if is_name word then input_in d.vars (find d word) else None

-- The header is the word for the moment, and then words that name the inputs at these places, no two the same.
pub record IsHeader (d : Declared) (fields : Fields) (columns : List ℕ) : Type 0 where
  pub words : List (List ℕ)
  pub same : fields ≡ codes "moment" ∷ words
  pub named : map (input_named d) words ≡ map Some columns
  pub distinct : IsDistinct (λ (a b : ℕ). a == b) columns

-- ---- the records after it

-- The field is a bit.
abbrev pub is_bit : Option (List ℕ) → Bool
is_bit (Some field) = bytes_eq field (codes "1") || bytes_eq field (codes "0")
is_bit None = false

-- All fields are bits.
abbrev pub are_bits : Fields → Bool
are_bits fields = list_all (λ f. is_bit (Some f)) fields

-- The record is a moment, and a bit for each column.
pub record IsRow (columns : List ℕ) (fields : Fields) (moment : ℕ) (bits : List Bool) : Type 0 where
  pub same : fields ≡ decimal moment ∷ map bit_text bits
  pub count : length bits ≡ length columns
  pub small : moment < 2 ^ 64

-- The inputs of the columns have the bits, the others what they had.
abbrev pub given_by : List ℕ → List Bool → List Bool → List Bool
given_by [] bits image = image
given_by (c ∷ columns) [] image = image
given_by (c ∷ columns) (b ∷ bits) image = given_by columns bits (set image c b)
