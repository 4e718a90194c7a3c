-- What the names in a body stand for: variables and blocks of a program in Structured Text.
use Rattle.std.specs.Prelude.{◌≡◌, ◌⊎◌, ◌+◌, ◌<◌, ◌==◌, ℕ, Bool, true, List, codes, Some, drop, position, slice_get, take}
use Rattle.diagram_declarations.specs.Kind.{traits_of}
use Rattle.diagram_declarations.specs.Name.{same_letters}
use Rattle.st_expression.specs.declared.expression.Operand.{Operand}
use Rattle.st_expression.specs.declared.expression.Operand.TheVariants.{Variable, Output}
use Rattle.st_words.specs.Places.{spelled}
use Rattle.st_program.specs.declared.program.StInstance.{StInstance}
use Rattle.st_program.specs.declared.symbols.Sort.TheVariants as sort
use Rattle.st_program.specs.declared.symbols.StVariable.{StVariable}
use Rattle.st_program.specs.Items.{output_word}
use Rattle.xml_document.specs.Items.{Item}
use Rattle.xml_parts.specs.Parts.{attribute_in}
use Rattle.plc_declarations.specs.Types.{trigger_sort, trigger_word}
use Rattle.plc_elements.specs.declared.names.Names.{Names}

-- The declared variable with this number. Those behind the declared ones have no name in the body.
pub record IsDeclared (names : Names) (number : ℕ) (variable : StVariable) : Type 0 where
  pub at : slice_get names.variables.now number ≡ Some variable
  pub is_declared : number < names.declared

-- The variable of type BOOL with this number has the name, whatever the case of its letters.
pub record IsVariable (names : Names) (number : ℕ) (word : List ℕ) : Type 0 where
  pub variable : StVariable
  pub declared : IsDeclared names number variable
  pub is_bool : variable.sort ≡ sort.Bool
  pub called : same_letters word (spelled names.text.now variable.name) ≡ true

-- ---- triggers

-- The variable with this number is the output of a trigger that is declared with the name.
pub record IsTrigger (names : Names) (falling : Bool) (number : ℕ) (word : List ℕ) : Type 0 where
  pub variable : StVariable
  pub declared : IsDeclared names number variable
  pub is_trigger : variable.sort ≡ trigger_sort falling
  pub called : same_letters word (spelled names.text.now variable.name) ≡ true

-- The word is the name of a trigger, a point (46) and the name of its output, which is the variable with this number.
pub record IsTriggerOutput (names : Names) (number : ℕ) (word : List ℕ) : Type 0 where
  pub falling : Bool
  pub point : ℕ
  pub is_point : position (λ b. b == 46) word ≡ Some point
  pub is : IsTrigger names falling number (take point word)
  pub out : same_letters (drop (point + 1) word) (codes "Q") ≡ true

-- The element is this trigger: it has its name and its type.
pub record IsTriggerBlock (names : Names) (items : List Item) (falling : Bool) (number : ℕ) : Type 0 where
  pub name : List ℕ
  pub type_name : List ℕ
  pub named : attribute_in (codes "instanceName") items ≡ Some name
  pub typed : attribute_in (codes "typeName") items ≡ Some type_name
  pub is : IsTrigger names falling number name
  pub kind : same_letters type_name (trigger_word falling) ≡ true

-- ---- blocks

-- The word is the name of the block with this number, a point (46) and the name of its output.
pub record IsOutput (names : Names) (number : ℕ) (word : List ℕ) : Type 0 where
  pub block : StInstance
  pub point : ℕ
  pub at : slice_get names.instances.now number ≡ Some block
  pub is_point : position (λ b. b == 46) word ≡ Some point
  pub called : same_letters (take point word) (spelled names.text.now block.name) ≡ true
  pub out : same_letters (drop (point + 1) word) (output_word block.kind) ≡ true

-- what an operand is called
abbrev pub IsCalled : Names → Operand → (word : List ℕ) → Type 0
IsCalled names (Variable number) word = IsVariable names number word ⊎ IsTriggerOutput names number word
IsCalled names (Output number) word = IsOutput names number word

-- The element is this block: it has the name and the type of the one with this number.
pub record IsBlock (names : Names) (items : List Item) (number : ℕ) (block : StInstance) : Type 0 where
  pub name : List ℕ
  pub type_name : List ℕ
  pub at : slice_get names.instances.now number ≡ Some block
  pub named : attribute_in (codes "instanceName") items ≡ Some name
  pub typed : attribute_in (codes "typeName") items ≡ Some type_name
  pub called : same_letters name (spelled names.text.now block.name) ≡ true
  pub kind : same_letters type_name (traits_of block.kind).word ≡ true
