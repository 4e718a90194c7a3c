-- A text as a program.
use Rattle.std.specs.Prelude.{◌≡◌, ℕ, ◌+◌, true, List, [], ◌∷◌, Option, map, unwrap_or, if◌then◌else◌}
use Rattle.st_words.specs.declared.word.Word.{Word}
use Rattle.st_words.specs.Places.{spelled, spellings}
use Rattle.st_words.specs.Refusals.{RefusedAt}
use Rattle.st_words.specs.Words.{AreWords}
use Rattle.st_program.specs.declared.fault.StFault.{StFault}
use Rattle.st_program.specs.declared.fault.StFault.TheVariants as fault
use Rattle.st_program.specs.declared.item.Item.{Item}
use Rattle.st_program.specs.declared.mark.Mark.TheVariants as mark
use Rattle.st_program.specs.declared.notes.Called.{Called}
use Rattle.st_program.specs.declared.notes.Called.TheVariants as called
use Rattle.st_program.specs.declared.notes.Note.{Note}
use Rattle.st_program.specs.declared.program.StInstance.{StInstance}
use Rattle.st_program.specs.declared.program.StProgram.{StProgram}
use Rattle.st_program.specs.declared.symbols.Block.{Block}
use Rattle.st_program.specs.Declarations.{Sections}
use Rattle.st_program.specs.Items.{AreItems, AreValues, values_in}
use Rattle.st_program.specs.Notes.{is_of_block}
use Rattle.st_program.specs.Phrases.{Marked}
use Rattle.st_program.specs.Statements.{Body, Has, Reads}
use Rattle.st_program.specs.Symbols.{IsName, Table}

-- `PROGRAM` and a name, or nothing
pub data Heading (text : List ℕ) : (words rest : List Word) → Type 0 where
  untitled : (words : List Word) → Heading text words words
  titled : (words rest : List Word) (name : Word) → Marked text mark.Program words (name ∷ rest) → IsName (spelled text name) → Heading text words rest

-- `END_PROGRAM` or nothing, a semicolon or nothing, and the end of the text
pub data Finish : List Item → Type 0 where
  at_once : Finish []
  semicolon : (items : List Item) → Has mark.Semicolon items [] → Finish items

pub data Ending : List Item → Type 0 where
  unmarked : Ending []
  marked : (items rest : List Item) → Has mark.EndProgram items rest → Finish rest → Ending items

-- ---- presets

abbrev pub preset_of : Called → ℕ
preset_of (called.Block number preset) = preset
preset_of _ = 0

-- The preset of a block is that of its call; one that isn't called has that of its declaration, or 0.
abbrev pub preset_in : ℕ → Option ℕ → List Note → ℕ
preset_in number declared [] = unwrap_or declared 0
preset_in number declared (note ∷ notes) = if is_of_block number note.called then preset_of note.called else preset_in number declared notes

-- the blocks from a number on
abbrev pub instances_from : List Note → ℕ → List Block → List StInstance
instances_from notes number [] = []
instances_from notes number (b ∷ blocks) =
    record { name = b.name; kind = b.kind; preset = preset_in number b.preset notes } ∷ instances_from notes (number + 1) blocks

abbrev pub nothing_declared : Table
nothing_declared = record { variables = []; blocks = [] }

-- The words are this program: the sections of declarations, then statements, with PROGRAM and END_PROGRAM about them or without. Its variables
-- are those that are declared, and behind them those of the values that are assigned to INTs.
pub record IsProgram (text : List ℕ) (words : List Word) (p : StProgram) : Type 0 where
  pub behind : List Word
  pub body : List Word
  pub declared : Table
  pub symbols : Table
  pub items : List Item
  pub rest : List Item
  pub notes : List Note
  pub heading : Heading text words behind
  pub sections : Sections text behind body nothing_declared declared
  pub values : AreValues text body declared symbols
  pub are_items : AreItems text symbols true body items
  pub reads : Reads (values_in symbols) Body items rest [] notes p.statements
  pub ending : Ending rest
  pub variables : p.variables.items ≡ symbols.variables
  pub instances : p.instances.items ≡ instances_from notes 0 symbols.blocks
  pub places : p.places.items ≡ map (λ note. note.word) notes

-- The text is this program.
abbrev pub IsStProgram : (text : List ℕ) → StProgram → Type 0
IsStProgram text p = (words : List Word) × AreWords text (spellings text words) × IsProgram text words p

-- Where no word begins, what is before the place is words, and the text is no list of words. Of a fault in its words it says nothing.
abbrev pub Refuses : (text : List ℕ) → StFault → Type 0
Refuses text (fault.Character at) = RefusedAt text at
Refuses text (fault.Words refusal) = Unit {0}
