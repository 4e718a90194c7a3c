-- What a text in Structured Text declares of a drawing.
use Rattle.std.specs.Prelude.{◌≡◌, ◌⊎◌, ℕ, ◌≤◌, ◌/◌, ◌%◌, true, false, List, [], ◌∷◌, ◌++◌, length, Option, Some, None}
use Rattle.std.specs.Char.{is_ascii_digit}
use Rattle.std.specs.List.{list_all}
use Rattle.diagram_declarations.specs.declared.decls.Address.{Address}
use Rattle.diagram_declarations.specs.declared.decls.Instance.{Instance}
use Rattle.diagram_declarations.specs.declared.decls.Var.{Var}
use Rattle.diagram_declarations.specs.Decls.{Declared}
use Rattle.diagram_declarations.specs.Grammar.{IsAddress}
use Rattle.st_words.specs.declared.word.Word.{Word}
use Rattle.st_words.specs.Places.{spelled}
use Rattle.st_program.specs.declared.symbols.Section.TheVariants as section
use Rattle.st_program.specs.declared.symbols.Sort.TheVariants as sort
use Rattle.st_program.specs.declared.symbols.StVariable.{StVariable}
use Rattle.st_program.specs.declared.program.StInstance.{StInstance}
use Rattle.export_program.specs.declared.form.AddressForm.{AddressForm}
use Rattle.export_program.specs.declared.form.AddressForm.TheVariants as form

-- ---- names

-- The word is a name, then an underscore, which is 95, and then a number in decimal.
abbrev pub IsNumbered : (word name : List ℕ) → Type 0
IsNumbered word name = (digits : List ℕ) × (word ≡ name ++ 95 ∷ digits) × (1 ≤ length digits) × (list_all is_ascii_digit digits ≡ true)

-- The word is the name of the declaration, or its title, which is its alias where it has one, or the name with a number behind it.
abbrev pub IsNamed : (word name title : List ℕ) → Type 0
IsNamed word name title = (word ≡ name) ⊎ ((word ≡ title) ⊎ IsNumbered word name)

-- ---- addresses

-- By byte and bit, the place n of one number is bit n % 8 of byte n / 8; an address that has two numbers can't be written so.
abbrev pub by_bits : Address → Option ℕ → Option Address
by_bits a None = Some (record { letter = a.letter; first = a.first / 8; second = Some (a.first % 8) })
by_bits a (Some second) = None

-- how the text writes an address of the drawing
abbrev pub address_in : AddressForm → Address → Option Address
address_in form.Plain a = Some a
address_in form.Bits a = by_bits a a.second

-- Where the drawing places the variable, a word of the text spells that address; where it doesn't, the text has no address either.
abbrev pub IsPlacedAt : AddressForm → (text : List ℕ) → Var → Option Address → Option Word → Type 0
IsPlacedAt form text v (Some a) place =
    (word : Word) × (due : Address) × (place ≡ Some word) × (address_in form a ≡ Some due) × IsAddress (spelled text word) v.kind due
IsPlacedAt form text v None place = place ≡ None

abbrev pub IsPlaced : AddressForm → (text : List ℕ) → Var → Option Word → Type 0
IsPlaced form text v place = IsPlacedAt form text v v.address place

-- ---- variables

-- The variable is a BOOL of a section VAR.
pub record IsLocal (x : StVariable) : Type 0 where
  pub local : x.section ≡ section.Local
  pub is_bool : x.sort ≡ sort.Bool

-- The variable of the text is that of the drawing: it has the same name, the same place and the same value at the start.
pub record IsVariable (form : AddressForm) (text : List ℕ) (v : Var) (x : StVariable) : Type 0 where
  pub local : IsLocal x
  pub named : IsNamed (spelled text x.name) v.name v.title
  pub placed : IsPlaced form text v x.address
  pub initial : x.initial ≡ v.initial

-- A helper has no address and is OFF at the start.
pub record IsHelper (x : StVariable) : Type 0 where
  pub local : IsLocal x
  pub free : x.address ≡ None
  pub off : x.initial ≡ false

abbrev pub AreHelpers : List StVariable → Type 0
AreHelpers [] = Unit {0}
AreHelpers (x ∷ xs) = IsHelper x × AreHelpers xs

-- The variables of the drawing come first, in their order, and then helpers.
abbrev pub AreVariables : AddressForm → (text : List ℕ) → List Var → List StVariable → Type 0
AreVariables form text [] xs = AreHelpers xs
AreVariables form text (v ∷ vs) [] = ⊥
AreVariables form text (v ∷ vs) (x ∷ xs) = IsVariable form text v x × AreVariables form text vs xs

-- ---- instances

-- The instance of the text is that of the drawing: it has the same name, the same kind and the same preset.
pub record IsInstance (text : List ℕ) (i : Instance) (x : StInstance) : Type 0 where
  pub named : IsNamed (spelled text x.name) i.name i.title
  pub kind : x.kind ≡ i.kind
  pub preset : x.preset ≡ i.preset

-- The instances are those of the drawing, in their order.
abbrev pub AreInstances : (text : List ℕ) → List Instance → List StInstance → Type 0
AreInstances text [] [] = Unit {0}
AreInstances text (i ∷ is) (x ∷ xs) = IsInstance text i x × AreInstances text is xs
AreInstances text is xs = ⊥

-- ---- both

-- The text declares what the drawing declares.
pub record AreExported (form : AddressForm) (text : List ℕ) (d : Declared) (variables : List StVariable) (instances : List StInstance) : Type 0 where
  pub are_variables : AreVariables form text d.vars variables
  pub are_instances : AreInstances text d.instances instances
