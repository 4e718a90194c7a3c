-- What a drawing declares of a program in Structured Text.
use Rattle.std.specs.Prelude.{◌≡◌, ℕ, Bool, true, not, ◌&&◌, is_none, List, [], ◌∷◌, ◌++◌, codes, decimal, take, Option, Some, None}
use Rattle.std.specs.List.{list_all}
use Rattle.diagram_declarations.specs.declared.title.TheConstants.{LONGEST_TITLE}
use Rattle.diagram_declarations.specs.declared.decls.Address.{Address}
use Rattle.diagram_declarations.specs.declared.decls.Instance.{Instance}
use Rattle.diagram_declarations.specs.declared.decls.Var.{Var}
use Rattle.diagram_declarations.specs.declared.decls.VarKind.TheVariants as kind
use Rattle.diagram_declarations.specs.Decls.{Declared, is_input}
use Rattle.diagram_declarations.specs.Grammar.{IsAddress}
use Rattle.st_words.specs.declared.word.Word.{Word}
use Rattle.st_words.specs.Places.{spelled}
use Rattle.st_program.specs.declared.symbols.Section.{Section}
use Rattle.st_program.specs.declared.symbols.Section.TheVariants.{Local, Input, Output}
use Rattle.st_program.specs.declared.symbols.Sort.TheVariants.{Value}
use Rattle.st_program.specs.declared.symbols.StVariable.{StVariable}
use Rattle.st_program.specs.declared.program.StInstance.{StInstance}

-- What lists call it: a word, or as much of it as an alias can have.
abbrev pub shown_of : List ℕ → List ℕ
shown_of word = take LONGEST_TITLE word

-- Without an address in the text, a variable is an input or an output as its section says, at any address, or has none.
abbrev pub IsOfSection : Section → Var → Type 0
IsOfSection Local v = (v.kind ≡ kind.Memory) × (v.address ≡ None)
IsOfSection Input v = v.kind ≡ kind.Input
IsOfSection Output v = v.kind ≡ kind.Output

-- The address is the one that the word spells.
abbrev pub IsAt : List ℕ → Var → Type 0
IsAt word v = (a : Address) × (v.address ≡ Some a) × IsAddress word v.kind a

-- The address is the one in the text.
abbrev pub IsPlaced : List ℕ → Section → Option Word → Var → Type 0
IsPlaced text section (Some word) v = IsAt (spelled text word) v
IsPlaced text section None v = IsOfSection section v

-- What a variable is called: its name in the text, or where it stands for a value of an INT that name, an underscore and the value.
abbrev pub called : List ℕ → StVariable → List ℕ
called text x = elim x.sort [ Value of ↦ spelled text x.name ++ (codes "_" ++ decimal of.value) | _ ↦ spelled text x.name ]

pub record IsVariable (text : List ℕ) (x : StVariable) (v : Var) : Type 0 where
  pub title : v.title ≡ shown_of (called text x)
  pub initial : v.initial ≡ x.initial
  pub placed : IsPlaced text x.section x.address v

-- A helper is no input, has no address and begins as OFF.
abbrev pub is_helper : Var → Bool
is_helper v = not (is_input v) && (is_none v.address && not v.initial)

-- The variables of the text come first, in their order, and then the helpers of the drawing.
abbrev pub AreVariables : List ℕ → List StVariable → List Var → Type 0
AreVariables text [] vs = list_all is_helper vs ≡ true
AreVariables text (x ∷ xs) [] = ⊥
AreVariables text (x ∷ xs) (v ∷ vs) = IsVariable text x v × AreVariables text xs vs

pub record IsInstance (text : List ℕ) (x : StInstance) (i : Instance) : Type 0 where
  pub title : i.title ≡ shown_of (spelled text x.name)
  pub kind : i.kind ≡ x.kind
  pub preset : i.preset ≡ x.preset

-- The instances are those of the text, in their order.
abbrev pub AreInstances : List ℕ → List StInstance → List Instance → Type 0
AreInstances text [] [] = Unit {0}
AreInstances text (x ∷ xs) (i ∷ is) = IsInstance text x i × AreInstances text xs is
AreInstances text xs is = ⊥

pub record AreDeclared (text : List ℕ) (variables : List StVariable) (instances : List StInstance) (d : Declared) : Type 0 where
  pub are_variables : AreVariables text variables d.vars
  pub are_instances : AreInstances text instances d.instances
