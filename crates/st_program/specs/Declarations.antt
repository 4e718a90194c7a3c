-- The declarations of a program (IEC 61131-3:2013, declaration of variables): VAR, VAR_INPUT or VAR_OUTPUT, declarations, END_VAR.
use Rattle.std.specs.Prelude.{◌≡◌, ℕ, ◌≤◌, Bool, true, false, List, [], ◌∷◌, Option, Some, None}
use Rattle.diagram_declarations.specs.declared.kind.BlockKind.{BlockKind}
use Rattle.diagram_declarations.specs.declared.kind.Parameter.{Parameter}
use Rattle.diagram_declarations.specs.declared.kind.Parameter.TheVariants as parameter
use Rattle.diagram_declarations.specs.declared.limits.TheConstants.{LARGEST_COUNT}
use Rattle.diagram_declarations.specs.Duration.{IsDuration}
use Rattle.diagram_declarations.specs.Grammar.{IsNumber}
use Rattle.diagram_declarations.specs.Kind.{traits_of, parameter_word}
use Rattle.diagram_declarations.specs.Name.{same_letters}
use Rattle.diagram_declarations.specs.Text.{begins_with}
use Rattle.st_words.specs.declared.word.Word.{Word}
use Rattle.st_words.specs.Places.{spelled}
use Rattle.st_program.specs.declared.mark.Mark.{Mark}
use Rattle.st_program.specs.declared.mark.Mark.TheVariants as mark
use Rattle.st_program.specs.declared.symbols.Section.{Section}
use Rattle.st_program.specs.declared.symbols.Section.TheVariants.{Local}
use Rattle.st_program.specs.declared.symbols.Sort.TheVariants as sort
use Rattle.st_program.specs.declared.symbols.Declared.{Declared}
use Rattle.st_program.specs.declared.symbols.Declared.TheVariants as declared
use Rattle.st_program.specs.Marks.{kind_of, section_of}
use Rattle.st_program.specs.Phrases.{Marked}
use Rattle.st_program.specs.Symbols.{Table, IsFresh, added}

-- names with commas between them
pub data Names (text : List ℕ) : (words rest names : List Word) → Type 0 where
  last : (name : Word) (rest : List Word) → Names text (name ∷ rest) rest (name ∷ [])
  more : (name : Word) (behind after rest names : List Word) → Marked text mark.Comma behind after → Names text after rest names
      → Names text (name ∷ behind) rest (name ∷ names)

-- `AT` and a place, which begins with the percent sign (37), or nothing
pub data Place (text : List ℕ) : (words rest : List Word) → Option Word → Type 0 where
  nowhere : (words : List Word) → Place text words words None
  at : (words rest : List Word) (word : Word) → Marked text mark.At words (word ∷ rest) → begins_with 37 (spelled text word) ≡ true
      → Place text words rest (Some word)

-- `:=` and a constant, or nothing, which stands for FALSE
pub data Initial (text : List ℕ) : (words rest : List Word) → Bool → Type 0 where
  by_default : (words : List Word) → Initial text words words false
  turned_on : (words value rest : List Word) → Marked text mark.Becomes words value → Marked text mark.On value rest → Initial text words rest true
  turned_off : (words value rest : List Word) → Marked text mark.Becomes words value → Marked text mark.Off value rest → Initial text words rest false

-- a duration, or a number that a counter can count to
abbrev pub IsPreset : Parameter → List ℕ → ℕ → Type 0
IsPreset parameter.Time word n = IsDuration word n
IsPreset parameter.Count word n = IsNumber word n × (n ≤ LARGEST_COUNT)

-- `(PT := duration)` or `(PV := number)` behind `:=`, or nothing
pub data Preset (text : List ℕ) (kind : BlockKind) : (words rest : List Word) → Option ℕ → Type 0 where
  not_here : (words : List Word) → Preset text kind words words None
  here : (p : Parameter) (words bracket before after rest : List Word) (name word : Word) (n : ℕ) → (traits_of kind).parameter ≡ Some p
      → Marked text mark.Becomes words bracket → Marked text mark.Open bracket (name ∷ before) → same_letters (spelled text name) (parameter_word p) ≡ true
      → Marked text mark.Becomes before (word ∷ after) → IsPreset p (spelled text word) n → Marked text mark.Close after rest
      → Preset text kind words rest (Some n)

-- a number that an INT can have
abbrev pub IsInteger : List ℕ → ℕ → Type 0
IsInteger = IsPreset parameter.Count

-- `:=` and a number, or nothing, which stands for 0
pub data InitialNumber (text : List ℕ) : (words rest : List Word) → ℕ → Type 0 where
  zero_by_default : (words : List Word) → InitialNumber text words words 0
  numbered : (words rest : List Word) (number : Word) (n : ℕ) → Marked text mark.Becomes words (number ∷ rest) → IsInteger (spelled text number) n
      → InitialNumber text words rest n

-- a type, and what it says of the names before it
pub data Typed (text : List ℕ) (section : Section) : Option Word → (words rest : List Word) → Declared → Type 0 where
  bool : (address : Option Word) (words after rest : List Word) (on : Bool) → Marked text mark.Bool words after → Initial text after rest on
      → Typed text section address words rest (declared.Variable section address on sort.Bool)
  integer : (words after rest : List Word) (n : ℕ) → section ≡ Local → Marked text mark.Int words after → InitialNumber text after rest n
      → Typed text section None words rest (declared.Integer section n)
  rising : (words rest : List Word) → Marked text mark.RisingTrigger words rest
      → Typed text section None words rest (declared.Variable section None false sort.Rising)
  falling : (words rest : List Word) → Marked text mark.FallingTrigger words rest
      → Typed text section None words rest (declared.Variable section None false sort.Falling)
  block : (word : Mark) (kind : BlockKind) (words after rest : List Word) (preset : Option ℕ) → Marked text word words after → kind_of word ≡ Some kind
      → Preset text kind after rest preset → Typed text section None words rest (declared.Block kind preset)

-- what the table is with some names more, each of which isn't declared before it
pub data Adds (text : List ℕ) (what : Declared) : List Word → (before after : Table) → Type 0 where
  nothing : (t : Table) → Adds text what [] t t
  name : (word : Word) (words : List Word) (before after : Table) → IsFresh text before word → Adds text what words (added before word what) after
      → Adds text what (word ∷ words) before after

-- An address is that of one name.
abbrev pub MayShare : List Word → Option Word → Type 0
MayShare names None = Unit {0}
MayShare names (Some address) = (name : Word) × (names ≡ name ∷ [])

-- name {, name} [AT address] : type;
pub record Declaration (text : List ℕ) (section : Section) (words rest : List Word) (before after : Table) : Type 0 where
  pub names : List Word
  pub address : Option Word
  pub what : Declared
  pub behind_names : List Word
  pub behind_address : List Word
  pub types : List Word
  pub end : List Word
  pub are_names : Names text words behind_names names
  pub place : Place text behind_names behind_address address
  pub shared : MayShare names address
  pub colon : Marked text mark.Colon behind_address types
  pub typed : Typed text section address types end what
  pub semicolon : Marked text mark.Semicolon end rest
  pub adds : Adds text what names before after

-- declarations up to END_VAR
pub data Declarations (text : List ℕ) (section : Section) : (words rest : List Word) → (before after : Table) → Type 0 where
  end : (words rest : List Word) (t : Table) → Marked text mark.EndVar words rest → Declarations text section words rest t t
  next : (words behind rest : List Word) (before between after : Table) → Declaration text section words behind before between
      → Declarations text section behind rest between after → Declarations text section words rest before after

-- a semicolon, or nothing
pub data Semicolon (text : List ℕ) : (words rest : List Word) → Type 0 where
  there : (words rest : List Word) → Marked text mark.Semicolon words rest → Semicolon text words rest
  left_out : (words : List Word) → Semicolon text words words

-- sections of declarations
pub data Sections (text : List ℕ) : (words rest : List Word) → (before after : Table) → Type 0 where
  last_section : (words : List Word) (t : Table) → Sections text words words t t
  section_then : (word : Mark) (section : Section) (words inside behind after rest : List Word) (t u v : Table) → Marked text word words inside
      → section_of word ≡ Some section → Declarations text section inside behind t u → Semicolon text behind after → Sections text after rest u v
      → Sections text words rest t v
