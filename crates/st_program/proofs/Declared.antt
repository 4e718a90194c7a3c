-- Declarations, put together from what was read.
use Rattle.std.proofs.Common.{◌≡◌, ℕ, true, ◌==◌, List, [], ◌∷◌, ◌++◌, Option, Some, None, length, subst, refl, arith}
use Rattle.std.proofs.lemmas.Bool.{eqb-true}
use Rattle.std.proofs.lemmas.List.{append_assoc}
use Rattle.diagram_declarations.specs.declared.kind.BlockKind.{BlockKind}
use Rattle.diagram_declarations.specs.declared.kind.Parameter.{Parameter}
use Rattle.diagram_declarations.specs.Kind.{traits_of, parameter_word}
use Rattle.diagram_declarations.specs.Name.{same_letters}
use Rattle.diagram_declarations.specs.Text.{begins_with}
use Rattle.st_words.specs.declared.word.Word.{Word}
use Rattle.st_words.specs.Places.{spelled}
use Rattle.st_program.specs.declared.mark.Mark.{Mark}
use Rattle.st_program.specs.declared.mark.Mark.TheVariants as mark
use Rattle.st_program.specs.declared.symbols.Section.{Section}
use Rattle.st_program.specs.declared.symbols.Declared.{Declared}
use Rattle.st_program.specs.Declarations.{Names, last, more, Place, at, Preset, here, IsInteger, IsPreset, InitialNumber, numbered, MayShare, Adds, nothing, name, Declaration, Declarations, next, Semicolon, Sections, section_then}
use Rattle.st_program.specs.Phrases.{Marked}
use Rattle.st_program.specs.Symbols.{Table, IsFresh, added}
use Rattle.st_program.specs.Marks.{section_of}

pub share_one : (names : List Word) (address : Option Word) (word : Word) → address ≡ Some word → (length names == 1) ≡ true → MayShare names address
share_one names None word is single = tt
share_one [] (Some a) word is single = absurd cc
share_one (n ∷ []) (Some a) word is single = (n, refl)
share_one (n ∷ m ∷ ns) (Some a) word is single = absurd (omega (arith, eqb-true (length (n ∷ m ∷ ns)) 1 single))

pub placed : (text : List ℕ) (words behind rest : List Word) (word : Word) → Marked text mark.At words behind → behind ≡ word ∷ rest
    → begins_with 37 (spelled text word) ≡ true → Place text words rest (Some word)
placed text words behind rest word marked first percent = at words rest word (subst (Marked text mark.At words) first marked) percent

pub number_given : (text : List ℕ) (words behind rest : List Word) (number : Word) (n : ℕ) (bytes : List ℕ) → Marked text mark.Becomes words behind
    → behind ≡ number ∷ rest → bytes ≡ spelled text number → IsInteger bytes n → InitialNumber text words rest n
number_given text words behind rest number n bytes becomes first are is =
    numbered words rest number n (subst (Marked text mark.Becomes words) first becomes) (subst (λ b. IsInteger b n) are is)

abbrev pub Named : List ℕ → Parameter → (words rest : List Word) → Type 0
Named text p words rest = (word : Word) × (words ≡ word ∷ rest) × (same_letters (spelled text word) (parameter_word p) ≡ true)

abbrev pub Valued : List ℕ → Parameter → (words rest : List Word) → ℕ → Type 0
Valued text p words rest n = (word : Word) × (words ≡ word ∷ rest) × IsPreset p (spelled text word) n

pub preset_here : (text : List ℕ) (kind : BlockKind) (p : Parameter) (words bracket names before values after rest : List Word) (n : ℕ)
    → (traits_of kind).parameter ≡ Some p → Marked text mark.Becomes words bracket → Marked text mark.Open bracket names → Named text p names before
    → Marked text mark.Becomes before values → Valued text p values after n → Marked text mark.Close after rest → Preset text kind words rest (Some n)
preset_here text kind p words bracket names before values after rest n parameter becomes opens named equals valued closes =
    here p words bracket before after rest named.0 valued.0 n parameter becomes (subst (Marked text mark.Open bracket) named.1 opens) named.2
    (subst (Marked text mark.Becomes before) valued.1 equals) valued.2 closes

-- a name is the last one
pub name_last : (text : List ℕ) (words left behind names : List Word) (word : Word)
    → ((rest others : List Word) → Names text left rest others → Names text words rest (names ++ others)) → left ≡ word ∷ behind
    → Names text words behind (names ++ word ∷ [])
name_last text words left behind names word so_far first = so_far behind (word ∷ []) (rw first (last word behind))

-- another name follows a name
pub name_more : (text : List ℕ) (words left behind after names : List Word) (word : Word)
    → ((rest others : List Word) → Names text left rest others → Names text words rest (names ++ others)) → left ≡ word ∷ behind
    → Marked text mark.Comma behind after
    → (rest others : List Word) → Names text after rest others → Names text words rest ((names ++ word ∷ []) ++ others)
name_more text words left behind after names word so_far first comma rest others is =
    rw append_assoc (so_far rest (word ∷ others) (rw first (more word behind after rest others comma is)))

-- one more name is declared
pub declared_name : (text : List ℕ) (what : Declared) (words left behind : List Word) (word : Word) (t u v : Table)
    → ((w : Table) → Adds text what left u w → Adds text what words t w) → left ≡ word ∷ behind → IsFresh text u word → v ≡ added u word what
    → (w : Table) → Adds text what behind v w → Adds text what words t w
declared_name text what words left behind word t u v so_far first fresh is w adds =
    so_far w (rw first (name word behind u w fresh (subst (λ x. Adds text what behind x w) is adds)))

pub declared_all : (text : List ℕ) (what : Declared) (words left : List Word) (t u : Table)
    → ((w : Table) → Adds text what left u w → Adds text what words t w) → left ≡ [] → Adds text what words t u
declared_all text what words left t u so_far none = so_far u (rw none (nothing u))

pub declaration_next : (text : List ℕ) (section : Section) (words left behind : List Word) (t u v : Table)
    → ((rest : List Word) (w : Table) → Declarations text section left rest u w → Declarations text section words rest t w)
    → Declaration text section left behind u v
    → (rest : List Word) (w : Table) → Declarations text section behind rest v w → Declarations text section words rest t w
declaration_next text section words left behind t u v so_far is rest w others = so_far rest w (next left behind rest u v w is others)

abbrev pub Opened : List ℕ → Section → (words rest : List Word) → Type 0
Opened text section words rest = (word : Mark) × Marked text word words rest × (section_of word ≡ Some section)

pub section_next : (text : List ℕ) (section : Section) (words left inside behind after : List Word) (t u v : Table)
    → ((rest : List Word) (w : Table) → Sections text left rest u w → Sections text words rest t w) → Opened text section left inside
    → Declarations text section inside behind u v → Semicolon text behind after
    → (rest : List Word) (w : Table) → Sections text after rest v w → Sections text words rest t w
section_next text section words left inside behind after t u v so_far opened declarations semicolon rest w others =
    so_far rest w (section_then opened.0 section left inside behind after rest u v w opened.1 opened.2 declarations semicolon others)
